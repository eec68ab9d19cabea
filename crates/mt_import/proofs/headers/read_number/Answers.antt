use Rattle.std.proofs.Common.{◌≡◌, ◌+◌, ◌-◌, ◌*◌, take, get_or, ap, sym, ◌∙◌, refl, subst, arith, inl, inr}
use Rattle.std.specs.Str.Parse.{AllDigits, digits_value}
use Rattle.std.proofs.lemmas.Bool.{iff_false}
use Rattle.std.proofs.lemmas.Int.Digits.{digits_more, digits_value_more}
use Rattle.std.proofs.lemmas.List.{take_all}
use Rattle.std.proofs.lemmas.Str.Parse.{digit_at}
use Rattle.mt_import.specs.HeaderParts.{IsPlain}
use Rattle.mt_import.proofs.NumberLemmas.{IsPlain-decimal, AllDigits-decimal, decimal-plain, digit_value-digit}
use Rattle.mt_import.proofs.headers.read_number.Goals as goal

pub returns-then-not-is_plain : goal.returns-then-not-is_plain
returns-then-not-is_plain c = λ n l e. iff_false c.is_plain.ensures c.if-not-is_plain.true (subst IsPlain (sym e) (IsPlain-decimal n l))

pub returns-then-not-is_ascii_digit : goal.returns-then-not-is_ascii_digit
returns-then-not-is_ascii_digit c = λ n l e.
    let digit = digit_at c.args.word.now c.loop-byte.byte-index (AllDigits-decimal n c.args.word.now l e) c.loop-byte-test.true in
    elim c.if-not-is_ascii_digit.ensures.cases [ inl low ↦ omega (arith, digit.0, low) | inr high ↦ omega (arith, digit.1, high) ]

pub loop-byte-preserved : goal.loop-byte-preserved
loop-byte-preserved c =
    let word = c.args.word.now in
    let i = c.loop-byte.byte-index in
    let digit = c.if-not-is_ascii_digit.ensures in
    record {
      digits = digits_more 10 word i c.loop-byte-test.true c.loop-byte.invariant.digits digit.bound;
      value = ap (λ n. n * 10 + (get_or word i 0 - 48)) c.loop-byte.invariant.value
          ∙ ap (λ d. digits_value 10 (take i word) * 10 + d) (sym (digit_value-digit (get_or word i 0) digit.cases.0 digit.cases.1))
          ∙ sym (digits_value_more 10 word i c.loop-byte-test.true);
    }

pub returns : goal.returns
returns c =
    let word = c.args.word.now in
    let all : take c.loop-byte.byte-index word ≡ word = take_all c.loop-byte.byte-index word c.loop-byte-test.false in
    let value : c.loop-byte.number ≡ digits_value 10 word = c.loop-byte.invariant.value ∙ ap (digits_value 10) all in
    rw value (decimal-plain word (c.if-not-is_plain.ensures.0 refl) (subst (AllDigits 10) all c.loop-byte.invariant.digits))
