-- The readings of one text as an event.
use Rattle.std.proofs.Common.{◌≡◌, ◌⊎◌, inl, inr, ℕ, ◌≤◌, ◌↔◌, List, [], ◌∷◌, ◌++◌, length, codes, refl, sym, ap, ◌∙◌, subst, arith}
use Rattle.mt_system.specs.declared.claims.Form.{Form}
use Rattle.mt_system.specs.declared.claims.Form.TheVariants.{Ooa, Net, Seq}
use Rattle.mt_system.specs.Forms.{form_word}
use Rattle.mt_import.specs.declared.headers.Header.{Header}
use Rattle.mt_import.specs.declared.refusals.FormRefused.{FormRefused}
use Rattle.mt_import.specs.declared.refusals.FormRefused.TheVariants.{TooLong, Line}
use Rattle.mt_import.specs.declared.refusals.Wanted.TheVariants as wanted
use Rattle.mt_import.specs.declared.events.EventText.{EventText}
use Rattle.mt_import.specs.declared.events.EventText.TheVariants.{Import}
use Rattle.mt_import.specs.Reading.{Contents}
use Rattle.mt_import.specs.declared.import_text.TheConstants.{MOST_BYTES}
use Rattle.mt_import.specs.Lines.{lines_of, words_of}
use Rattle.mt_import.specs.Headers.{IsHeaderLine}
use Rattle.mt_import.specs.Texts.{HasHeader, Begins, IsImport, HasNoHeader, IsRefusal}
use Rattle.mt_import.specs.Withdrawals.{BeginsWithdrawal, IsWithdrawal, IsRefusedWithdrawal}
use Rattle.mt_import.specs.Events.{IsSomeImport, IsEvent, SaysWithdraw, HasNoWithdrawLine, IsEventRefusal}
use Rattle.mt_import.specs.WithdrawalAnswers.{RefusesWithdrawal}
use Rattle.mt_import.specs.EventReading.{IsEventText}
use Rattle.mt_import.specs.EventLaws.{WantsHeaderOrBlank}
use Rattle.mt_import.proofs.ReadingLemmas.{has_header}
use Rattle.mt_import.proofs.LawLemmas.{not_both, one_refusal}
use Rattle.mt_import.proofs.WithdrawalLemmas.{same_withdrawal, no_refused_line, one_refused_line}

no_form_word : (f : Form) → form_word f ≡ codes "withdraw" → ⊥
no_form_word Ooa e = let size = ap (λ (word : List ℕ). length word) e in omega arith
no_form_word Net e = let size = ap (λ (word : List ℕ). length word) e in omega arith
no_form_word Seq e = let size = ap (λ (word : List ℕ). length word) e in omega arith

-- a line whose first word is `withdraw` is no header
no_header_line : (line : List ℕ) (words : List (List ℕ)) (h : Header) → words_of line ≡ codes "withdraw" ∷ words → IsHeaderLine line h → ⊥
no_header_line line words h e is =
    let whole = sym is.words ∙ e in
    let first : form_word h.form ≡ codes "withdraw" = cc in
    no_form_word h.form first

says_withdraw : (text name : List ℕ) (others : List (List ℕ)) → BeginsWithdrawal text name others → SaysWithdraw text
says_withdraw text name others b = record { first = b.first; others = others; words = name ∷ []; lines = b.lines; words_are = b.withdraws.words }

no_header : (text : List ℕ) (h : Header) → SaysWithdraw text → HasHeader text h → ⊥
no_header text h says has =
    let whole = sym has.lines ∙ says.lines in
    let first : has.line ≡ says.first = cc in
    no_header_line says.first says.words h says.words_are (subst (λ line. IsHeaderLine line h) first has.header)

-- nor does an import text begin with it
no_begins : (text : List ℕ) (h : Header) (note : List ℕ) (source rows others : List (List ℕ)) → SaysWithdraw text → Begins text h note source rows others → ⊥
no_begins text h note source rows others says b =
    no_header text h says (record { line = b.first; others = source ++ (rows ++ others); lines = b.lines; header = b.header })

-- so it is refused at line 1, or behind a line that withdraws a name
abbrev IsCause : List ℕ → FormRefused → Type 0
IsCause text TooLong = ⊥
IsCause text (Line n wanted.Header) = (n ≡ 1) × HasNoWithdrawLine (lines_of text)
IsCause text (Line n wanted.Source) = ⊥
IsCause text (Line n wanted.Row) = ⊥
IsCause text (Line n wanted.Blank) = IsRefusedWithdrawal text n

cause : (text : List ℕ) (refused : FormRefused) → SaysWithdraw text → length text ≤ MOST_BYTES → IsEventRefusal text refused → IsCause text refused
cause text TooLong says few r = omega (arith, few, r)
cause text (Line n wanted.Header) says few r = (r.1, r.2.1)
cause text (Line n wanted.Source) says few r = no_header text r.header says r.starts
cause text (Line n wanted.Row) says few r = no_begins text r.header r.note r.source r.rows r.others says r.begins
cause text (Line n wanted.Blank) says few (inl r) = absurd (no_begins text r.header r.note r.source r.rows (r.blanks ++ r.last ∷ r.others) says r.begins)
cause text (Line n wanted.Blank) says few (inr r) = r

-- where line 1 withdraws a name, behind it
behind : (text name : List ℕ) (others : List (List ℕ)) (refused : FormRefused) → BeginsWithdrawal text name others → IsCause text refused → RefusesWithdrawal text refused
behind text name others TooLong b c = absurd c
behind text name others (Line n wanted.Header) b c = absurd (subst HasNoWithdrawLine b.lines c.1 name b.withdraws)
behind text name others (Line n wanted.Source) b c = absurd c
behind text name others (Line n wanted.Row) b c = absurd c
behind text name others (Line n wanted.Blank) b c = record { number = n; refused_is = refl; line = c }

withdrawal_cause : (text name : List ℕ) (others : List (List ℕ)) (refused : FormRefused) → BeginsWithdrawal text name others → IsEventRefusal text refused → RefusesWithdrawal text refused
withdrawal_cause text name others refused b r = behind text name others refused b (cause text refused (says_withdraw text name others b) b.few r)

-- any other text that is refused is refused as an import text
as_import : (text : List ℕ) (refused : FormRefused) → IsEventRefusal text refused → IsRefusal text refused ⊎ RefusesWithdrawal text refused
as_import text TooLong r = inl r
as_import text (Line n wanted.Header) r = inl (r.0, r.1, r.2.0)
as_import text (Line n wanted.Source) r = inl r
as_import text (Line n wanted.Row) r = inl r
as_import text (Line n wanted.Blank) (inl r) = inl r
as_import text (Line n wanted.Blank) (inr r) = inr (record { number = n; refused_is = refl; line = r })

pub one_withdrawal : (text name other : List ℕ) → IsWithdrawal text name → IsWithdrawal text other → name ≡ other
one_withdrawal text name other a b = (same_withdrawal text name other a.blanks b.blanks a.begins b.begins).name_is

pub one_kind : (text : List ℕ) (h : Header) (note digits name : List ℕ) → IsImport text h note digits → IsWithdrawal text name → ⊥
one_kind text h note digits name a b = no_header text h (says_withdraw text name b.blanks b.begins) (has_header text h note digits a)

pub not_refused : (text : List ℕ) (refused : FormRefused) → IsEvent text → IsEventRefusal text refused → ⊥
not_refused text refused (inl (h, note, digits, is)) r =
    elim (as_import text refused r) [
      | inl other ↦ not_both text h note digits refused is other
      | inr line ↦ no_header text h (says_withdraw text line.line.name (line.line.blanks ++ line.line.last ∷ line.line.others) line.line.begins) (has_header text h note digits is)
    ]
not_refused text refused (inr (name, is)) r =
    let line = withdrawal_cause text name is.blanks refused is.begins r in
    no_refused_line text name line.number is line.line

-- a line behind one that withdraws a name is the only refused one
only_line : (text : List ℕ) (n : ℕ) (refused : FormRefused) → IsRefusedWithdrawal text n → IsEventRefusal text refused → Line n wanted.Blank ≡ refused
only_line text n refused r s =
    let line = withdrawal_cause text r.name (r.blanks ++ r.last ∷ r.others) refused r.begins s in
    ap (λ k. Line k wanted.Blank) (one_refused_line text n line.number r line.line) ∙ sym line.refused_is

pub one_event_refusal : (text : List ℕ) (r s : FormRefused) → IsEventRefusal text r → IsEventRefusal text s → r ≡ s
one_event_refusal text r s a b =
    elim (as_import text r a) [
      | inr line ↦ line.refused_is ∙ only_line text line.number s line.line b
      | inl this ↦
          elim (as_import text s b) [
            | inr line ↦ sym (line.refused_is ∙ only_line text line.number r line.line a)
            | inl other ↦ one_refusal text r s this other
          ]
    ]

-- the first word decides what a text is read as
pub no_import : (text : List ℕ) → SaysWithdraw text → length text ≤ MOST_BYTES → IsRefusal text (Line 1 wanted.Header)
no_import text says few =
    let none : HasNoHeader (says.first ∷ says.others) = λ h is. no_header_line says.first says.words h says.words_are is in
    (few, refl, subst HasNoHeader (sym says.lines) none)

pub wants : (text : List ℕ) (refused : FormRefused) → SaysWithdraw text → length text ≤ MOST_BYTES → IsEventRefusal text refused → WantsHeaderOrBlank refused
wants text TooLong says few r = cause text TooLong says few r
wants text (Line n wanted.Header) says few r = tt
wants text (Line n wanted.Source) says few r = cause text (Line n wanted.Source) says few r
wants text (Line n wanted.Row) says few r = cause text (Line n wanted.Row) says few r
wants text (Line n wanted.Blank) says few r = tt

-- and every other text is an event or refused as it is an import text or refused as one
pub import_event : (text : List ℕ) → ¬ SaysWithdraw text → IsEvent text → IsSomeImport text
import_event text other (inl is) = is
import_event text other (inr (name, is)) = absurd (other (says_withdraw text name is.blanks is.begins))

no_withdraw_line : (text : List ℕ) → ¬ SaysWithdraw text → HasNoWithdrawLine (lines_of text)
no_withdraw_line text other = at (lines_of text) refl
  where
    at : (lines : List (List ℕ)) → lines_of text ≡ lines → HasNoWithdrawLine lines
    at [] e = tt
    at (line ∷ lines) e = λ name is. other (record { first = line; others = lines; words = name ∷ []; lines = e; words_are = is.words })

pub import_refusal : (text : List ℕ) (refused : FormRefused) → ¬ SaysWithdraw text → IsEventRefusal text refused ↔ IsRefusal text refused
import_refusal text TooLong other = (λ r. r, λ r. r)
import_refusal text (Line n wanted.Header) other = (λ r. (r.0, r.1, r.2.0), λ r. (r.0, r.1, (r.2, no_withdraw_line text other)))
import_refusal text (Line n wanted.Source) other = (λ r. r, λ r. r)
import_refusal text (Line n wanted.Row) other = (λ r. r, λ r. r)
import_refusal text (Line n wanted.Blank) other = (
  λ r.
      elim r [
        | inl line ↦ line
        | inr line ↦ absurd (other (says_withdraw text line.name (line.blanks ++ line.last ∷ line.others) line.begins))
      ],
  λ r. inl r,
)

-- the header of an event that is an import text stands on line 1
pub event_header : (text : List ℕ) (event : EventText) (is : Contents) → event ≡ Import is → IsEventText text event → HasHeader text is.header
event_header text event is same found = has_header text is.header is.note is.digits (subst (IsEventText text) same found)
