-- Two readings of one text are the same.
use Rattle.std.proofs.Common.{◌≡◌, inl, inr, ℕ, ◌+◌, ◌*◌, ◌<◌, List, [], ◌∷◌, ◌++◌, length, flat_map, All, refl, sym, ap, ap₂, ◌∙◌, subst, arith}
use Rattle.std.proofs.lemmas.Bool.{cases_order}
use Rattle.std.proofs.lemmas.List.Elements.{All-head, All-tail}
use Rattle.mt_import.specs.declared.headers.Header.{Header}
use Rattle.mt_import.specs.declared.refusals.FormRefused.{FormRefused}
use Rattle.mt_import.specs.declared.refusals.FormRefused.TheVariants.{TooLong, Line}
use Rattle.mt_import.specs.declared.refusals.Wanted.TheVariants as wanted
use Rattle.mt_import.specs.Lines.{lines_of}
use Rattle.mt_import.specs.Headers.{IsHeaderLine}
use Rattle.mt_import.specs.Texts.{IsRow, digits_of, IsBlankLine, Begins, IsImport, HasNoHeader, HasBadSource, HasNoRow, IsRefusedSource, IsRefusedRow, IsRefusedEnd, IsRefusal}
use Rattle.mt_import.proofs.HeaderLemmas.{header_unique}
use Rattle.mt_import.proofs.SourceLemmas.{same_source, no_bad_source}

abbrev Lines : Type 0
Lines = List (List ℕ)

-- two cuts of one list at one place
same_cut : (xs ys zs ws : Lines) → length xs ≡ length ys → xs ++ zs ≡ ys ++ ws → (xs ≡ ys) × (zs ≡ ws)
same_cut [] [] zs ws l e = (refl, e)
same_cut [] (y ∷ ys) zs ws l e = absurd (omega arith)
same_cut (x ∷ xs) [] zs ws l e = absurd (omega arith)
same_cut (x ∷ xs) (y ∷ ys) zs ws l e =
    let both : (xs ≡ ys) × (zs ≡ ws) = same_cut xs ys zs ws (omega arith) (cc) in
    let first : x ≡ y = cc in
    (cc, both.1)

-- behind the shorter prefix stands a line of the longer one
pub record GoesOn (P : List ℕ → Type 0) (zs : Lines) : Type 0 where
  pub line : List ℕ
  pub rest : Lines
  pub is : zs ≡ line ∷ rest
  pub holds : P line

goes_on : (P : List ℕ → Type 0) (xs ys zs ws : Lines) → length xs < length ys → xs ++ zs ≡ ys ++ ws → All P ys → GoesOn P zs
goes_on P xs [] zs ws l e h = absurd (omega arith)
goes_on P [] (y ∷ ys) zs ws l e h = record { line = y; rest = ys ++ ws; is = e; holds = All-head P y ys h }
goes_on P (x ∷ xs) (y ∷ ys) zs ws l e h = goes_on P xs ys zs ws (omega arith) (cc) (All-tail P y ys h)

-- one text begins in one way
pub record SameStart (g h : Header) (note other : List ℕ) (source more rows others ends rest : Lines) : Type 0 where
  pub header : g ≡ h
  pub note_is : note ≡ other
  pub source_is : source ≡ more
  pub lines : rows ++ others ≡ ends ++ rest

same_start : (text : List ℕ) (g h : Header) (note other : List ℕ) (source more rows others ends rest : Lines) → Begins text g note source rows others → Begins text h other more ends rest
    → SameStart g h note other source more rows others ends rest
same_start text g h note other source more rows others ends rest a b =
    let whole = sym a.lines ∙ b.lines in
    let first : a.first ≡ b.first = cc in
    let same = same_source source more note other (rows ++ others) (ends ++ rest) a.source_is b.source_is (cc) in
    record {
      header = header_unique b.first g h (subst (λ l. IsHeaderLine l g) first a.header) b.header;
      note_is = same.note_is;
      source_is = same.source_is;
      lines = same.behind_is;
    }

no_row_goes_on : (q m : ℕ) (zs : Lines) → HasNoRow q m zs → GoesOn (IsRow q m) zs → ⊥
no_row_goes_on q m zs none on = subst (HasNoRow q m) on.is none on.holds

has_header : (text : List ℕ) (h : Header) (note : List ℕ) (source rows others : Lines) → Begins text h note source rows others → HasNoHeader (lines_of text) → ⊥
has_header text h note source rows others b none = subst HasNoHeader b.lines none h b.header

-- a line that begins as a source line and is none stands in no such text
has_source : (text : List ℕ) (h : Header) (n : ℕ) (note : List ℕ) (source rows others : Lines) → Begins text h note source rows others → IsRefusedSource text n → ⊥
has_source text h n note source rows others b r =
    let lines = sym b.lines ∙ r.starts.lines in
    let behind : source ++ (rows ++ others) ≡ r.starts.others = cc in
    no_bad_source source note (rows ++ others) b.source_is (subst HasBadSource (sym behind) r.refused)

pub one_import : (text : List ℕ) (g h : Header) (note other ds es : List ℕ) → IsImport text g note ds → IsImport text h other es → (g ≡ h) × (note ≡ other) × (ds ≡ es)
one_import text g h note other ds es a b =
    let start = same_start text g h note other a.source b.source a.rows a.blanks b.rows b.blanks a.begins b.begins in
    let size : length a.rows ≡ length b.rows = a.number ∙ ap (λ (x : Header). x.s * x.depth) start.header ∙ sym b.number in
    let rows = (same_cut a.rows b.rows a.blanks b.blanks size start.lines).0 in
    (start.header, start.note_is, a.digits_are ∙ ap (flat_map digits_of) rows ∙ sym b.digits_are)

-- the rows of one text, where they are all there, and where one is lacking
row_lacks : (text : List ℕ) (h : Header) (note : List ℕ) (n : ℕ) (source rows others : Lines) (r : IsRefusedRow text n) → Begins text h note source rows others → length rows ≡ h.s * h.depth → ⊥
row_lacks text h note n source rows others r b full =
    let start = same_start text h r.header note r.note source r.source rows others r.rows r.others b r.begins in
    let size : h.s * h.depth ≡ r.header.s * r.header.depth = ap (λ (x : Header). x.s * x.depth) start.header in
    let each : All (IsRow r.header.q r.header.m) rows = subst (λ (x : Header). All (IsRow x.q x.m) rows) start.header b.each in
    no_row_goes_on r.header.q r.header.m r.others r.refused (goes_on (IsRow r.header.q r.header.m) r.rows rows r.others others (omega (arith, r.fewer)) (sym start.lines) each)

pub at_cut : (P : List ℕ → Type 0) (xs : Lines) (y : List ℕ) (ys : Lines) → All P (xs ++ y ∷ ys) → P y
at_cut P [] y ys h = All-head P y ys h
at_cut P (x ∷ xs) y ys h = at_cut P xs y ys (All-tail P x (xs ++ y ∷ ys) h)

-- of two lines without a property, each behind lines that have it, none is the later one
not_later : (P : List ℕ → Type 0) (xs ys zs ws : Lines) (x y : List ℕ) → xs ++ x ∷ zs ≡ ys ++ y ∷ ws → All P ys → ¬ P x → length xs < length ys → ⊥
not_later P xs ys zs ws x y e has none l =
    let on = goes_on P xs ys (x ∷ zs) (y ∷ ws) l e has in
    let is = on.is in
    let same : on.line ≡ x = cc in
    none (subst P same on.holds)

pub same_mark : (P : List ℕ → Type 0) (xs ys zs ws : Lines) (x y : List ℕ) → xs ++ x ∷ zs ≡ ys ++ y ∷ ws → All P xs → All P ys → ¬ P x → ¬ P y → length xs ≡ length ys
same_mark P xs ys zs ws x y e has more none other =
    elim (cases_order (length xs) (length ys)) [
      | inl same ↦ same
      | inr (inl l) ↦ absurd (not_later P xs ys zs ws x y e more none l)
      | inr (inr l) ↦ absurd (not_later P ys xs ws zs y x (sym e) has other l)
    ]

pub not_both : (text : List ℕ) (h : Header) (note digits : List ℕ) (refused : FormRefused) → IsImport text h note digits → IsRefusal text refused → ⊥
not_both text h note digits TooLong a r = omega (arith, a.begins.few)
not_both text h note digits (Line n wanted.Header) a r = has_header text h note a.source a.rows a.blanks a.begins r.2
not_both text h note digits (Line n wanted.Source) a r = has_source text h n note a.source a.rows a.blanks a.begins r
not_both text h note digits (Line n wanted.Row) a r = row_lacks text h note n a.source a.rows a.blanks r a.begins a.number
not_both text h note digits (Line n wanted.Blank) a r =
    let start = same_start text h r.header note r.note a.source r.source a.rows a.blanks r.rows (r.blanks ++ r.last ∷ r.others) a.begins r.begins in
    let size : length a.rows ≡ length r.rows = a.number ∙ ap (λ (x : Header). x.s * x.depth) start.header ∙ sym r.number in
    let rest = (same_cut a.rows r.rows a.blanks (r.blanks ++ r.last ∷ r.others) size start.lines).1 in
    r.refused (at_cut IsBlankLine r.blanks r.last r.others (subst (All IsBlankLine) rest a.blank))

-- line 1 is no header, or it is one and line 2 is refused
source_header : (text : List ℕ) (n : ℕ) → IsRefusedSource text n → HasNoHeader (lines_of text) → ⊥
source_header text n r none = subst HasNoHeader r.starts.lines none r.header r.starts.header

-- of two lines that are no rows the earlier one is refused
module _ (text : List ℕ) (n k : ℕ) (r : IsRefusedRow text n) (s : IsRefusedRow text k) where
  row_later : length r.rows < length s.rows → ⊥
  row_later l =
      let start = same_start text r.header s.header r.note s.note r.source s.source r.rows r.others s.rows s.others r.begins s.begins in
      let each : All (IsRow r.header.q r.header.m) s.rows = subst (λ (x : Header). All (IsRow x.q x.m) s.rows) (sym start.header) s.begins.each in
      no_row_goes_on r.header.q r.header.m r.others r.refused (goes_on (IsRow r.header.q r.header.m) r.rows s.rows r.others s.others l start.lines each)

row_row : (text : List ℕ) (n k : ℕ) → IsRefusedRow text n → IsRefusedRow text k → n ≡ k
row_row text n k r s =
    let start = same_start text r.header s.header r.note s.note r.source s.source r.rows r.others s.rows s.others r.begins s.begins in
    elim (cases_order (length r.rows) (length s.rows)) [
      | inl e ↦ r.line ∙ ap₂ (λ (source : Lines) m. length source + m + 2) start.source_is e ∙ sym s.line
      | inr (inl l) ↦ absurd (row_later text n k r s l)
      | inr (inr l) ↦ absurd (row_later text k n s r l)
    ]

-- and of two lines that are not blank
module _ (text : List ℕ) (n k : ℕ) (r : IsRefusedEnd text n) (s : IsRefusedEnd text k) where
  same_size : length r.rows ≡ length s.rows
  same_size =
      let start = same_start text r.header s.header r.note s.note r.source s.source r.rows (r.blanks ++ r.last ∷ r.others) s.rows (s.blanks ++ s.last ∷ s.others) r.begins s.begins in
      r.number ∙ ap (λ (x : Header). x.s * x.depth) start.header ∙ sym s.number

end_end : (text : List ℕ) (n k : ℕ) → IsRefusedEnd text n → IsRefusedEnd text k → n ≡ k
end_end text n k r s =
    let start = same_start text r.header s.header r.note s.note r.source s.source r.rows (r.blanks ++ r.last ∷ r.others) s.rows (s.blanks ++ s.last ∷ s.others) r.begins s.begins in
    let source : length r.source ≡ length s.source = ap (λ (source : Lines). length source) start.source_is in
    let size = same_size text n k r s in
    let rest = (same_cut r.rows s.rows (r.blanks ++ r.last ∷ r.others) (s.blanks ++ s.last ∷ s.others) size start.lines).1 in
    let blanks = same_mark IsBlankLine r.blanks s.blanks r.others s.others r.last s.last rest r.blank s.blank r.refused s.refused in
    r.line ∙ (let same : length r.source + length r.rows + length r.blanks + 2 ≡ length s.source + length s.rows + length s.blanks + 2 = omega arith in same) ∙ sym s.line

row_end : (text : List ℕ) (n k : ℕ) → IsRefusedRow text n → IsRefusedEnd text k → ⊥
row_end text n k r s = row_lacks text s.header s.note n s.source s.rows (s.blanks ++ s.last ∷ s.others) r s.begins s.number

pub one_refusal : (text : List ℕ) (r s : FormRefused) → IsRefusal text r → IsRefusal text s → r ≡ s
one_refusal text TooLong TooLong a b = refl
one_refusal text TooLong (Line k wanted.Header) a b = absurd (omega (arith, a, b.0))
one_refusal text TooLong (Line k wanted.Source) a b = absurd (omega (arith, a, b.few))
one_refusal text TooLong (Line k wanted.Row) a b = absurd (omega (arith, a, b.begins.few))
one_refusal text TooLong (Line k wanted.Blank) a b = absurd (omega (arith, a, b.begins.few))
one_refusal text (Line n wanted.Header) TooLong a b = absurd (omega (arith, a.0, b))
one_refusal text (Line n wanted.Source) TooLong a b = absurd (omega (arith, a.few, b))
one_refusal text (Line n wanted.Row) TooLong a b = absurd (omega (arith, a.begins.few, b))
one_refusal text (Line n wanted.Blank) TooLong a b = absurd (omega (arith, a.begins.few, b))
one_refusal text (Line n wanted.Header) (Line k wanted.Header) a b = ap (λ m. Line m wanted.Header) (a.1 ∙ sym b.1)
one_refusal text (Line n wanted.Header) (Line k wanted.Source) a b = absurd (source_header text k b a.2)
one_refusal text (Line n wanted.Header) (Line k wanted.Row) a b = absurd (has_header text b.header b.note b.source b.rows b.others b.begins a.2)
one_refusal text (Line n wanted.Header) (Line k wanted.Blank) a b = absurd (has_header text b.header b.note b.source b.rows (b.blanks ++ b.last ∷ b.others) b.begins a.2)
one_refusal text (Line n wanted.Source) (Line k wanted.Header) a b = absurd (source_header text n a b.2)
one_refusal text (Line n wanted.Row) (Line k wanted.Header) a b = absurd (has_header text a.header a.note a.source a.rows a.others a.begins b.2)
one_refusal text (Line n wanted.Blank) (Line k wanted.Header) a b = absurd (has_header text a.header a.note a.source a.rows (a.blanks ++ a.last ∷ a.others) a.begins b.2)
one_refusal text (Line n wanted.Source) (Line k wanted.Source) a b = ap (λ m. Line m wanted.Source) (a.line ∙ sym b.line)
one_refusal text (Line n wanted.Source) (Line k wanted.Row) a b = absurd (has_source text b.header n b.note b.source b.rows b.others b.begins a)
one_refusal text (Line n wanted.Source) (Line k wanted.Blank) a b = absurd (has_source text b.header n b.note b.source b.rows (b.blanks ++ b.last ∷ b.others) b.begins a)
one_refusal text (Line n wanted.Row) (Line k wanted.Source) a b = absurd (has_source text a.header k a.note a.source a.rows a.others a.begins b)
one_refusal text (Line n wanted.Blank) (Line k wanted.Source) a b = absurd (has_source text a.header k a.note a.source a.rows (a.blanks ++ a.last ∷ a.others) a.begins b)
one_refusal text (Line n wanted.Row) (Line k wanted.Row) a b = ap (λ m. Line m wanted.Row) (row_row text n k a b)
one_refusal text (Line n wanted.Blank) (Line k wanted.Blank) a b = ap (λ m. Line m wanted.Blank) (end_end text n k a b)
one_refusal text (Line n wanted.Row) (Line k wanted.Blank) a b = absurd (row_end text n k a b)
one_refusal text (Line n wanted.Blank) (Line k wanted.Row) a b = absurd (row_end text k n b a)
