use Rattle.std.proofs.Common.{◌≡◌, ℕ, ◌+◌, ◌<◌, length, map, slice_index}
use Rattle.mt_niederreiter.proofs.MatrixLemmas.{shown_of}
use Rattle.mt_niederreiter.proofs.quality_parameter.qualities.Given as goal

-- the sum so far, and those before it
abbrev pub invariant-loop-poly : goal.invariant-loop-poly
invariant-loop-poly l = record {
  sum : l.quality ≡ shown_of (map (λ p. p.coefficients) l.poly-items) l.poly-index;
  size : length l.qualities.items ≡ l.poly-index;
  each : (i : ℕ) → i < l.poly-index → slice_index l.qualities.items i ≡ shown_of (map (λ p. p.coefficients) l.poly-items) (i + 1);
}
