-- Rows of plain fields, as `csv` writes them.
use Rattle.std.proofs.Common.{◌≡◌, ℕ, suc, ◌+◌, ◌<◌, ◌^◌, ◌%◌, false, List, [], ◌∷◌, ◌++◌, length, map, get_or, decimal, refl, ap₂, ◌∙◌, arith}
use Rattle.std.proofs.lemmas.Bool.{cond-false, ne_eqb}
use Rattle.std.proofs.lemmas.Fmt.{decimal_by_steps, decimal_nonempty}
use Rattle.std.proofs.lemmas.List.{append-nil, length-append, length-map}
use Rattle.std.proofs.lemmas.List.Elements.{All-nil, All-cons, All-append}
use Rattle.std.proofs.lemmas.List.Folds.{list_any-append}
use Rattle.std.specs.List.{join_with_byte}
use Rattle.csv.specs.Writing.{row_text, row_body, field_text, fields_text, is_blank, needs_quotes, needs_byte, default_writer}
use Rattle.mt_answer.specs.Fields.{IsPlain, ArePlain}
use Rattle.mt_answer.specs.Sheets.{line_text}

-- ---- plain fields

digit_plain : (n : ℕ) → n < 10 → needs_byte default_writer (48 + n) ≡ false
digit_plain n l = rw (ne_eqb (48 + n) 44 (λ e. omega arith), ne_eqb (48 + n) 34 (λ e. omega arith), ne_eqb (48 + n) 13 (λ e. omega arith), ne_eqb (48 + n) 10 (λ e. omega arith)) refl

-- numbers in decimal are plain
pub decimal_plain : (n : ℕ) → n < 2 ^ 64 → IsPlain (decimal n)
decimal_plain n l = (
  decimal_nonempty n l,
  decimal_by_steps (λ n bs. needs_quotes default_writer bs ≡ false)
      (λ n h. rw (digit_plain n h) refl)
      (λ n ds h k. list_any-append (needs_byte default_writer) ds ((48 + n % 10) ∷ []) ∙ rw (k, digit_plain (n % 10) (omega arith)) refl)
      n l,
)

-- ---- rows

-- a plain field is written as it is
field_plain : (field : List ℕ) → IsPlain field → field_text default_writer field ≡ field
field_plain field h = cond-false _ _ _ h.1

body_plain : (field : List ℕ) (rest : List (List ℕ)) → ArePlain (field ∷ rest) → row_body default_writer (field ∷ rest) ≡ join_with_byte 44 (field ∷ rest)
unfolding fields_text
body_plain field [] h = append-nil (field_text default_writer field) ∙ field_plain field (h 0 [] (omega arith))
body_plain field (next ∷ rest) h =
    ap₂ (λ xs ys. xs ++ 44 ∷ ys) (field_plain field (h 0 [] (omega arith))) (body_plain next rest (λ k d l. h (suc k) d (omega arith)))

not_blank : (field : List ℕ) (rest : List (List ℕ)) → IsPlain field → is_blank default_writer (field ∷ rest) ≡ false
unfolding is_blank
not_blank field [] h = rw (field_plain field h) (ne_eqb (length field) 0 (λ e. let l = h.0 in omega arith))
not_blank field (next ∷ rest) h = refl

-- a row of plain fields is the fields with commas between them, and a line feed
pub plain_row : (fields : List (List ℕ)) → 0 < length fields → ArePlain fields → row_text default_writer fields ≡ line_text fields
plain_row [] l h = absurd (omega arith)
plain_row (field ∷ rest) l h =
    ap₂ (λ xs ys. xs ++ (ys ++ 10 ∷ [])) (body_plain field rest h) (cond-false _ _ _ (not_blank field rest (h 0 [] (omega arith))))

pub numbers_plain : (numbers : List ℕ) → ((i : ℕ) → get_or numbers i 0 < 2 ^ 64) → ArePlain (map decimal numbers)
numbers_plain [] h = All-nil IsPlain
numbers_plain (n ∷ numbers) h = All-cons IsPlain (decimal n) (map decimal numbers) (decimal_plain n (h 0)) (numbers_plain numbers (λ i. h (suc i)))

-- words and then numbers
pub fields_row : (words : List (List ℕ)) (numbers : List ℕ) → ArePlain words → ArePlain (map decimal numbers) → 0 < length words + length numbers
    → row_text default_writer (words ++ map decimal numbers) ≡ line_text (words ++ map decimal numbers)
fields_row words numbers h k l = plain_row (words ++ map decimal numbers)
    (omega (arith, length-append words (map decimal numbers), length-map numbers decimal)) (All-append IsPlain words (map decimal numbers) h k)
