-- The words of numbers below 1000.
use Rattle.std.proofs.Common.{◌≡◌, ℕ, ◌<◌, ◌≤◌, ◌-◌, ltb, List, length, decimal, ap, sym, ◌∙◌, subst, arith, inl, inr}
use Rattle.std.specs.Char.{digit_value}
use Rattle.std.specs.Str.Parse.{AllDigits, digits_value}
use Rattle.std.proofs.lemmas.Bool.{cases_lt, cond-true, cond-false, lt-ltb, le-ltb}
use Rattle.std.proofs.lemmas.Fmt.{decimal_digit, decimal_nonempty, length-decimal-le, first_decimal, decimal_is_IsNumeral, decimal-digits_value}
use Rattle.std.proofs.lemmas.Str.Parse.{IsNumeralModel, numerals_by_value, tells_digits, digits_value_short}
use Rattle.mt_import.specs.HeaderParts.{IsPlain}

own : IsNumeralModel (AllDigits 10) (digits_value 10)
own = numerals_by_value (AllDigits 10) tells_digits

pub IsPlain-decimal : (n : ℕ) → n < 1000 → IsPlain (decimal n)
IsPlain-decimal n l = record {
  some = decimal_nonempty n (omega arith);
  few = length-decimal-le 3 n (omega arith) (omega arith) (omega arith);
  zero = λ e.
      elim (cases_lt n 10) [
        | inl one ↦ ap length (decimal_digit n one)
        | inr more ↦ absurd (omega (arith, e, first_decimal n (omega arith) (omega arith)))
      ];
}

pub AllDigits-decimal : (n : ℕ) (word : List ℕ) → n < 1000 → word ≡ decimal n → AllDigits 10 word
AllDigits-decimal n word l e = subst (AllDigits 10) (sym e) (decimal_is_IsNumeral n (omega arith)).0.1

-- plain digits are the word of their value
pub decimal-plain : (word : List ℕ) → IsPlain word → AllDigits 10 word → (digits_value 10 word < 1000) × (word ≡ decimal (digits_value 10 word))
decimal-plain word plain digits =
    let small : digits_value 10 word < 1000 = digits_value_short own word 3 digits plain.few in
    (small, sym (decimal-digits_value own word digits plain.some plain.zero (omega arith)))

pub digit_value-digit : (c : ℕ) → 48 ≤ c → c ≤ 57 → digit_value c ≡ c - 48
digit_value-digit c from to = cond-false (ltb c 48) _ _ (le-ltb c 48 from) ∙ cond-true (ltb c 58) _ _ (lt-ltb c 58 (omega arith))
