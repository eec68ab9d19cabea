use Rattle.std.proofs.Common.{ℕ, ◌+◌, ◌<◌, ◌≤◌, List, not, All, sym, refl, subst}
use Rattle.std.proofs.lemmas.Bool.{not_from_false, iff_false, false≢true}
use Rattle.std.proofs.lemmas.List.{take_all}
use Rattle.mt_import.specs.Lines.{is_blank, without_blanks}
use Rattle.mt_import.proofs.RowLemmas.{All-filter_at}
use Rattle.mt_import.proofs.rows.are_digits.Goals as goal

pub returns-then-not-is_digit : goal.returns-then-not-is_digit
returns-then-not-is_digit c = (
  λ t. absurd (false≢true t),
  λ h. absurd (iff_false c.is_digit.ensures c.if-not-is_digit.true
      (All-filter_at (λ b. (48 ≤ b) × (b < 48 + c.args.q)) (λ b. not (is_blank b)) c.args.line.now c.loop-byte.byte-index h c.loop-byte-test.true (not_from_false _ (sym c.if-not-is_blank.ensures)))),
)

pub returns : goal.returns
returns c =
    (λ t. subst (λ (xs : List ℕ). All (λ b. (48 ≤ b) × (b < 48 + c.args.q)) (without_blanks xs)) (take_all c.loop-byte.byte-index c.args.line.now c.loop-byte-test.false) c.loop-byte.invariant, λ h. refl)
