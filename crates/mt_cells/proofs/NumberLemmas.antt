-- Numbers as words.
use Rattle.std.proofs.Common.{◌≡◌, ◌≢◌, ℕ, ◌+◌, ◌^◌, ◌<◌, List, length, get_or, decimal, ap, sym, subst, arith, inl, inr}
use Rattle.std.specs.Prelude.{Result, Ok, Err, MatchOption}
use Rattle.std.specs.Result.{OkIff, result_ok}
use Rattle.std.specs.Str.Parse.{AllDigits, digits_value}
use Rattle.std.proofs.lemmas.Bool.{cases_lt}
use Rattle.std.proofs.lemmas.Fmt.{decimal_digit, first_decimal, decimal_is_IsNumeral, decimal-digits_value}
use Rattle.std.proofs.lemmas.Str.Parse.{IsNumeralModel, numerals_by_value, tells_digits}
use Rattle.mt_cells.specs.Numbers.{IsPlain}

pub own : IsNumeralModel (AllDigits 10) (digits_value 10)
own = numerals_by_value (AllDigits 10) tells_digits

pub IsPlain-decimal : (n : ℕ) → n < 2 ^ 64 → IsPlain (decimal n)
IsPlain-decimal n l =
    elim (cases_lt n 10) [
      | inl one ↦ let is = decimal_digit n one in record {
        unsigned = λ e. let first : get_or (decimal n) 0 0 ≡ 48 + n = ap (λ (ds : List ℕ). get_or ds 0 0) is in omega arith;
        zero = λ e. ap length is;
      }
      | inr more ↦ let first = first_decimal n (omega arith) l in record { unsigned = λ e. omega arith; zero = λ e. absurd (omega arith) }
    ]

-- what `parse` answers for a plain word
pub number_read : {E : Type 0} (word : List ℕ) (r : Result ℕ E) → IsPlain word → OkIff r (AllDigits 10 word × (0 < length word) × (digits_value 10 word < 2 ^ 64)) (digits_value 10 word)
    → MatchOption (result_ok r) ((n : ℕ) → n < 2 ^ 64 → word ≢ decimal n) (λ n. (n < 2 ^ 64) × (word ≡ decimal n))
number_read word (Ok n) plain h =
    let digits = h.0 in
    subst (λ k. (k < 2 ^ 64) × (word ≡ decimal k)) (sym h.1) (digits.2, sym (decimal-digits_value own word digits.0 digits.1 plain.zero digits.2))
number_read word (Err e) plain h = λ n l is.
    let numeral = decimal_is_IsNumeral n l in
    h (subst (AllDigits 10) (sym is) numeral.0.1, subst (λ (ds : List ℕ). 0 < length ds) (sym is) numeral.0.0, subst (λ (ds : List ℕ). digits_value 10 ds < 2 ^ 64) (sym is) (subst (λ k. k < 2 ^ 64) (sym numeral.1) l))
