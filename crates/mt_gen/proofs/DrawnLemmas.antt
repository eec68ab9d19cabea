-- What a generated claim has: small sizes, few choices, and its strength.
use Rattle.std.proofs.Common.{ℕ, ◌≤◌, min, sym, subst, arith}
use Rattle.std.proofs.lemmas.Nat.{mod_below}
use Rattle.mt_system.specs.Rows.{Matrices}
use Rattle.mt_system.specs.Statements.{Statement}
use Rattle.mt_strength.specs.Checks.{choices_by}
use Rattle.mt_strength.specs.Statements.{Holds, HasStrength}
use Rattle.mt_cells.specs.declared.bounds.Bounds.{Bounds}
use Rattle.mt_gen.specs.Generated.{word_at, IsDrawn, IsGenerated}
use Rattle.mt_gen.proofs.ChoiceLemmas.{few_choices}

columns_small : (b : Bounds) (x : ℕ) (a : Matrices) → IsDrawn b x a → a.columns ≤ min b.m_max 8
columns_small b x a is = omega (arith, is.columns, mod_below (word_at x 1) (min b.m_max 8) (omega (arith, b.m_low)))

coordinates_small : (b : Bounds) (x : ℕ) (a : Matrices) → IsDrawn b x a → a.coordinates ≤ min b.s_max 6
coordinates_small b x a is = omega (arith, is.coordinates, mod_below (word_at x 2) (min b.s_max 6) (omega (arith, b.s_low)))

pub depth_small : (b : Bounds) (x : ℕ) (a : Matrices) → IsDrawn b x a → a.depth ≤ a.columns
depth_small b x a is = omega (arith, is.depth, mod_below (word_at x 3) a.columns (omega (arith, is.columns)))

pub within_bounds : (b : Bounds) (x : ℕ) (a : Matrices) → IsDrawn b x a → (a.columns ≤ b.m_max) × (a.coordinates ≤ b.s_max)
within_bounds b x a is = (omega (arith, columns_small b x a is), omega (arith, coordinates_small b x a is))

pub few_of_claim : (seed : ℕ) (b : Bounds) (number x : ℕ) (c : Statement) → IsGenerated seed b number x c → choices_by c.form c.system c.k ≤ 3003
few_of_claim seed b number x c is =
    let a = c.system in let columns = columns_small b x a is.system in
    subst (λ f. choices_by f a c.k ≤ 3003) (sym is.form)
    (few_choices a.coordinates a.depth c.k (omega (arith, coordinates_small b x a is.system)) (omega (arith, columns, depth_small b x a is.system))
    (omega (arith, columns, is.strength.0)))

pub claim_holds : (seed : ℕ) (b : Bounds) (number x : ℕ) (c : Statement) → IsGenerated seed b number x c → Holds c
claim_holds seed b number x c is = subst (λ f. HasStrength f c.system c.k) (sym is.form) is.strength.1
