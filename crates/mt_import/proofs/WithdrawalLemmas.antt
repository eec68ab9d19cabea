-- Withdrawal texts: what was printed is one, and one is not refused.
use Rattle.std.proofs.Common.{◌≡◌, ℕ, ◌+◌, ◌<◌, List, [], ◌∷◌, ◌++◌, length, codes, All, sym, ap, ◌∙◌, subst, arith, length-append}
use Rattle.std.proofs.lemmas.List.Elements.{All-nil, All-cons, All-from_recursion}
use Rattle.mt_system.specs.Claims.{IsName}
use Rattle.mt_import.specs.Lines.{lines_of, words_of}
use Rattle.mt_import.specs.Texts.{IsBlankLine}
use Rattle.mt_import.specs.Withdrawals.{BeginsWithdrawal, IsWithdrawal, IsRefusedWithdrawal, withdraw_text}
use Rattle.mt_import.proofs.CanonicalLemmas.{IsWord, words_of-join, All-join, lines_of-line, IsWord-name}
use Rattle.mt_import.proofs.LawLemmas.{at_cut, same_mark}

IsWord-withdraw : IsWord (codes "withdraw")
IsWord-withdraw = record {
  some = omega arith;
  visible = All-from_recursion (λ b. 32 < b) (codes "withdraw") (omega arith, (omega arith, (omega arith, (omega arith, (omega arith, (omega arith, (omega arith, (omega arith, tt))))))));
}

-- the canonical text is a withdrawal text of this name
pub canonical_is_withdrawal : (name text : List ℕ) → IsName name → text ≡ withdraw_text name → IsWithdrawal text name
canonical_is_withdrawal name text is text_is =
    let line = codes "withdraw" ++ 32 ∷ name in
    let words : All IsWord (codes "withdraw" ∷ name ∷ []) = All-cons IsWord (codes "withdraw") (name ∷ []) IsWord-withdraw (All-cons IsWord name [] (IsWord-name name is) (All-nil IsWord)) in
    let size = ap (λ (bytes : List ℕ). length bytes) text_is in
    let parts = length-append name (10 ∷ []) in
    let few = is.few in
    record {
      blanks = [];
      begins = record {
        few = omega arith;
        first = line;
        lines = ap lines_of text_is ∙ lines_of-line line [] (All-join (codes "withdraw" ∷ name ∷ []) words);
        withdraws = record { words = words_of-join (codes "withdraw" ∷ name ∷ []) words; form = is };
      };
      blank = All-nil IsBlankLine;
    }

-- one text begins in one way
pub record SameWithdrawal (name other : List ℕ) (others rest : List (List ℕ)) : Type 0 where
  pub name_is : name ≡ other
  pub others_are : others ≡ rest

pub same_withdrawal : (text name other : List ℕ) (others rest : List (List ℕ)) → BeginsWithdrawal text name others → BeginsWithdrawal text other rest → SameWithdrawal name other others rest
same_withdrawal text name other others rest a b =
    let whole = sym a.lines ∙ b.lines in
    let first : a.first ≡ b.first = cc in
    let words = sym a.withdraws.words ∙ ap words_of first ∙ b.withdraws.words in
    record { name_is = cc; others_are = cc }

-- no line of a withdrawal text is refused
pub no_refused_line : (text name : List ℕ) (n : ℕ) → IsWithdrawal text name → IsRefusedWithdrawal text n → ⊥
no_refused_line text name n a r =
    let same = same_withdrawal text name r.name a.blanks (r.blanks ++ r.last ∷ r.others) a.begins r.begins in
    r.refused (at_cut IsBlankLine r.blanks r.last r.others (subst (All IsBlankLine) same.others_are a.blank))

-- and of another at most one
pub one_refused_line : (text : List ℕ) (n k : ℕ) → IsRefusedWithdrawal text n → IsRefusedWithdrawal text k → n ≡ k
one_refused_line text n k r s =
    let same = same_withdrawal text r.name s.name (r.blanks ++ r.last ∷ r.others) (s.blanks ++ s.last ∷ s.others) r.begins s.begins in
    r.line ∙ ap (λ m. m + 2) (same_mark IsBlankLine r.blanks s.blanks r.others s.others r.last s.last same.others_are r.blank s.blank r.refused s.refused) ∙ sym s.line
