-- Numbers and questions among words.
use Rattle.std.proofs.Common.{Bor, ◌≡◌, ◌≢◌, ℕ, ◌^◌, ◌<◌, ◌≤◌, List, ◌++◌, ◌∷◌, codes, decimal, ap, ap₂, sym, ◌∙◌, subst, get_or, arith}
use Rattle.std.specs.Prelude.{Option, None, Some, MatchOption, IsSome, IfSome, ◌↔◌}
use Rattle.std.specs.Str.Parse.{AllDigits, digits_value}
use Rattle.std.proofs.lemmas.Bool.{false≢true}
use Rattle.std.proofs.lemmas.Fmt.{decimal_injective, decimal_is_IsNumeral}
use Rattle.std.proofs.lemmas.Str.Parse.{IsNumeralModel, numerals_by_value, tells_digits, not_in_digits}
use Rattle.std.proofs.lemmas.Str.Pattern.{IsSplitOnceResult, split_after}
use Rattle.mt_cells.specs.declared.bounds.Bounds.{Bounds}
use Rattle.mt_cells.specs.declared.bounds.TheConstants.{MOST_COLUMNS, MOST_COORDINATES}
use Rattle.mt_cells.specs.declared.asks.Ask.{Ask}
use Rattle.mt_cells.specs.declared.asks.Question.{Question}
use Rattle.mt_cells.specs.declared.asks.Question.TheVariants.{Value, Tree, Matrix, Table, LeastM, Version, Export}
use Rattle.mt_answer.specs.Answers.{HasText}
use Rattle.mint.specs.declared.words.Task.{Task}
use Rattle.mint.specs.declared.words.Task.TheVariants as task
use Rattle.mint.specs.Words.{bounds_word, IsAskFor, AreTwo, AreThree, AreSeedAndCount, ArePortAndCounts, IsTask}

pub own : IsNumeralModel (AllDigits 10) (digits_value 10)
own = numerals_by_value (AllDigits 10) tells_digits

-- a word of bounds is cut at its comma
pub bounds_cut : (word : List ℕ) (r : Option (Bor (List ℕ) × Bor (List ℕ))) → IsSplitOnceResult 44 word r → (b : Bounds) → word ≡ bounds_word b
    → MatchOption r ⊥ (λ x. (x.0.now ≡ decimal b.m_max) × (x.1.now ≡ decimal b.s_max))
bounds_cut word r cut b e =
    let m = b.m_high in
    let digits = (decimal_is_IsNumeral b.m_max (omega arith)).0.1 in
    split_after 44 word (decimal b.m_max) (decimal b.s_max) r cut (omega arith) e (not_in_digits own (decimal b.m_max) 44 digits (λ range. omega (arith, range.0)))

-- the numbers of the parts are those of the bounds
pub same_bounds : (b : Bounds) (m s : ℕ) → m < 2 ^ 64 → s < 2 ^ 64 → decimal m ≡ decimal b.m_max → decimal s ≡ decimal b.s_max → (1 ≤ m) × (m ≤ MOST_COLUMNS) × (1 ≤ s) × (s ≤ MOST_COORDINATES)
same_bounds b m s small low e f =
    let m_high = b.m_high in
    let s_high = b.s_high in
    let same_m : m ≡ b.m_max = decimal_injective m b.m_max small (omega arith) e in
    let same_s : s ≡ b.s_max = decimal_injective s b.s_max low (omega arith) f in
    (omega (arith, b.m_low), omega arith, omega (arith, b.s_low), omega arith)

-- what a word of bounds says, from its two parts
pub bounds_read : (word prefix back : List ℕ) (m s : ℕ) → word ≡ prefix ++ 44 ∷ back → prefix ≡ decimal m → back ≡ decimal s → m < 2 ^ 64 → s < 2 ^ 64
    → ((b : Bounds) → word ≡ bounds_word b → (prefix ≡ decimal b.m_max) × (back ≡ decimal b.s_max)) → (r : Option Bounds)
    → (IsSome r ↔ ((1 ≤ m) × (m ≤ MOST_COLUMNS) × (1 ≤ s) × (s ≤ MOST_COORDINATES))) → IfSome r (λ b. b.m_max ≡ m) → IfSome r (λ b. b.s_max ≡ s)
    → MatchOption r ((b : Bounds) → word ≢ bounds_word b) (λ b. word ≡ bounds_word b)
bounds_read word prefix back m s whole prefix_is back_is small low cut None taken m_is s_is = λ b e.
    let parts = cut b e in
    absurd (false≢true (taken.1 (same_bounds b m s small low (sym prefix_is ∙ parts.0) (sym back_is ∙ parts.1))))
bounds_read word prefix back m s whole prefix_is back_is small low cut (Some b) taken m_is s_is =
    whole ∙ ap₂ (λ (x y : List ℕ). x ++ 44 ∷ y) (prefix_is ∙ ap decimal (sym m_is)) (back_is ∙ ap decimal (sym s_is))

-- words that are two numbers are no other seed and count
pub same_count : (words : List (List ℕ)) (q m seed count : ℕ) → AreTwo words q m → AreSeedAndCount words seed count → count ≡ m
same_count words q m seed count two is =
    let first = two.2 in
    let then = is.3 in
    let same : decimal count ≡ decimal m = cc in
    decimal_injective count m (omega (arith, is.2)) two.1 same

-- words that are three numbers are no other port and counts
pub same_counts : (words : List (List ℕ)) (q m s port workers connections : ℕ) → AreThree words q m s → ArePortAndCounts words port workers connections
    → (port ≡ q) × (workers ≡ m) × (connections ≡ s)
same_counts words q m s port workers connections three is =
    let first = three.3 in
    let then = is.6 in
    let same_port : decimal port ≡ decimal q = cc in
    let same_workers : decimal workers ≡ decimal m = cc in
    let same_connections : decimal connections ≡ decimal s = cc in (
      decimal_injective port q (omega (arith, is.1)) three.0 same_port,
      decimal_injective workers m (omega (arith, is.3)) three.1 same_workers,
      decimal_injective connections s (omega (arith, is.5)) three.2 same_connections,
    )

-- the word is none of those with which other tasks begin
pub record IsOther (word : List ℕ) : Type 0 where
  pub check : word ≢ codes "check"
  pub import : word ≢ codes "import"
  pub table : word ≢ codes "table"
  pub export : word ≢ codes "export"
  pub niederreiter : word ≢ codes "niederreiter"
  pub generate : word ≢ codes "generate"
  pub serve : word ≢ codes "serve"

pub value_is_other : IsOther (codes "value")
value_is_other = record {
  check = λ e. let differ = ap (λ (b : List ℕ). get_or b 0 0) e in omega arith;
  import = λ e. let differ = ap (λ (b : List ℕ). get_or b 0 0) e in omega arith;
  table = λ e. let differ = ap (λ (b : List ℕ). get_or b 0 0) e in omega arith;
  export = λ e. let differ = ap (λ (b : List ℕ). get_or b 0 0) e in omega arith;
  niederreiter = λ e. let differ = ap (λ (b : List ℕ). get_or b 0 0) e in omega arith;
  generate = λ e. let differ = ap (λ (b : List ℕ). get_or b 0 0) e in omega arith;
  serve = λ e. let differ = ap (λ (b : List ℕ). get_or b 0 0) e in omega arith;
}

pub tree_is_other : IsOther (codes "tree")
tree_is_other = record {
  check = λ e. let differ = ap (λ (b : List ℕ). get_or b 0 0) e in omega arith;
  import = λ e. let differ = ap (λ (b : List ℕ). get_or b 0 0) e in omega arith;
  table = λ e. let differ = ap (λ (b : List ℕ). get_or b 1 0) e in omega arith;
  export = λ e. let differ = ap (λ (b : List ℕ). get_or b 0 0) e in omega arith;
  niederreiter = λ e. let differ = ap (λ (b : List ℕ). get_or b 0 0) e in omega arith;
  generate = λ e. let differ = ap (λ (b : List ℕ). get_or b 0 0) e in omega arith;
  serve = λ e. let differ = ap (λ (b : List ℕ). get_or b 0 0) e in omega arith;
}

pub matrix_is_other : IsOther (codes "matrix")
matrix_is_other = record {
  check = λ e. let differ = ap (λ (b : List ℕ). get_or b 0 0) e in omega arith;
  import = λ e. let differ = ap (λ (b : List ℕ). get_or b 0 0) e in omega arith;
  table = λ e. let differ = ap (λ (b : List ℕ). get_or b 0 0) e in omega arith;
  export = λ e. let differ = ap (λ (b : List ℕ). get_or b 0 0) e in omega arith;
  niederreiter = λ e. let differ = ap (λ (b : List ℕ). get_or b 0 0) e in omega arith;
  generate = λ e. let differ = ap (λ (b : List ℕ). get_or b 0 0) e in omega arith;
  serve = λ e. let differ = ap (λ (b : List ℕ). get_or b 0 0) e in omega arith;
}

-- words whose others are no kind and sizes, and whose first is no other task's, ask for no task
pub asks_for_none : (words : List (List ℕ)) (word : List ℕ) (rest : List (List ℕ)) → words ≡ word ∷ rest → ((a : Ask) → ¬ IsAskFor rest a)
    → IsOther word → (t : Task) → ¬ IsTask words t
asks_for_none words word rest e none other task.Check is = other.check (cc)
asks_for_none words word rest e none other task.Import is = other.import (cc)
asks_for_none words word rest e none other (task.Ask (Value a)) is =
    let first = is.1 in let same : rest ≡ is.0 = cc in none a (subst (λ (r : List (List ℕ)). IsAskFor r a) (sym same) is.2)
asks_for_none words word rest e none other (task.Ask (Tree a)) is =
    let first = is.1 in let same : rest ≡ is.0 = cc in none a (subst (λ (r : List (List ℕ)). IsAskFor r a) (sym same) is.2)
asks_for_none words word rest e none other (task.Ask (Matrix a)) is =
    let first = is.1 in let same : rest ≡ is.0 = cc in none a (subst (λ (r : List (List ℕ)). IsAskFor r a) (sym same) is.2)
asks_for_none words word rest e none other (task.Ask (Table q m)) is = let first = is.1 in other.table (cc)
asks_for_none words word rest e none other (task.Ask Export) is = other.export (cc)
asks_for_none words word rest e none other (task.Ask (LeastM q s k)) is = is
asks_for_none words word rest e none other (task.Ask Version) is = is
asks_for_none words word rest e none other (task.Niederreiter q m s) is = let first = is.1 in other.niederreiter (cc)
asks_for_none words word rest e none other (task.Generate seed count) is = let first = is.1 in other.generate (cc)
asks_for_none words word rest e none other (task.Serve port workers connections) is = let first = is.1 in other.serve (cc)

-- a question that words ask for has a text
pub asked_has_text : (words : List (List ℕ)) (question : Question) → IsTask words (task.Ask question) → HasText question
asked_has_text words (Value a) is = tt
asked_has_text words (Tree a) is = tt
asked_has_text words (Matrix a) is = tt
asked_has_text words (Table q m) is = tt
asked_has_text words Export is = tt
asked_has_text words (LeastM q s k) is = absurd is
asked_has_text words Version is = absurd is
