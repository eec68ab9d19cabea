-- The claim of Niederreiter's matrices.
use Rattle.std.proofs.Common.{ℕ, ◌≤◌, [], codes, refl, sym, ◌∙◌, arith}
use Rattle.std.specs.Prelude.{Contains}
use Rattle.std.proofs.lemmas.List.Elements.{All-cons, All-nil}
use Rattle.mt_linear.specs.declared.order.Order.{Order}
use Rattle.mt_system.specs.declared.claims.Form.TheVariants.{Seq}
use Rattle.mt_system.specs.Claims.{name_characters, IsName, IsClaim}
use Rattle.mt_system.specs.Rows.{Matrices}
use Rattle.mt_niederreiter.specs.Matrices.{IsMatricesOf}

abbrev P : ℕ → Type 0
P b = Contains name_characters b

pub niederreiter_is_name : IsName (codes "niederreiter")
niederreiter_is_name = record {
  some = omega arith;
  few = omega arith;
  characters = All-cons P _ (codes "iederreiter") (13, omega arith, refl) (All-cons P _ (codes "ederreiter") (8, omega arith, refl) (All-cons P _ (codes "derreiter") (4, omega arith, refl) (All-cons P _ (codes "erreiter") (3, omega arith, refl) (All-cons P _ (codes "rreiter") (4, omega arith, refl) (All-cons P _ (codes "reiter") (17, omega arith, refl) (All-cons P _ (codes "eiter") (17, omega arith, refl) (All-cons P _ (codes "iter") (4, omega arith, refl) (All-cons P _ (codes "ter") (8, omega arith, refl) (All-cons P _ (codes "er") (19, omega arith, refl) (All-cons P _ (codes "r") (4, omega arith, refl) (All-cons P _ [] (17, omega arith, refl) (All-nil P))))))))))));
}

-- a strength that is at most m fits the matrices
pub sequence_fits : (o : Order) (m s k : ℕ) (a : Matrices) → IsMatricesOf o m s a → k ≤ m → IsClaim Seq k a
sequence_fits o m s k a x low = record {
  strength = omega (arith, x.rows.columns);
  depth = omega (arith, x.rows.columns, x.rows.depth);
  net = λ e. x.rows.depth ∙ sym x.rows.columns;
  sequence = λ e. x.rows.depth ∙ sym x.rows.columns;
}
