-- Niederreiter's matrices of the first polynomials of the coprime list, and their quality parameter (Niederreiter, 1988).
use Rattle.std.specs.Prelude.{◌≡◌, ℕ, ◌+◌, ◌-◌, ◌^◌, ◌<◌, List, length, min, slice_index}
use Rattle.mt_linear.specs.declared.order.Order.{Order}
use Rattle.mt_system.specs.Rows.{Matrices}
use Rattle.mt_poly.specs.CoprimeLists.{IsCoprimeList}
use Rattle.mt_niederreiter.specs.Expansions.{IsNiederreiter, quality_of}

-- t is the sum of the degrees less 1 of the first s polynomials of the list
pub record IsQuality (o : Order) (s t : ℕ) : Type 0 where
  pub polynomials : List (List ℕ)
  pub count : length polynomials ≡ s
  pub list : IsCoprimeList o polynomials
  pub value : t ≡ quality_of polynomials

-- n is that sum, up to the greatest u32
abbrev pub IsShownQuality : Order → ℕ → ℕ → Type 0
IsShownQuality o s n = (t : ℕ) × IsQuality o s t × (n ≡ min t (2 ^ 32 - 1))

-- the sums for 1, 2, .. polynomials, up to the greatest u32
pub record AreQualities (o : Order) (count : ℕ) (shown : List ℕ) : Type 0 where
  pub size : length shown ≡ count
  pub each : (i : ℕ) → i < count → IsShownQuality o (i + 1) (slice_index shown i)

-- a is the system of the first s polynomials of the list
pub record IsMatricesOf (o : Order) (m s : ℕ) (a : Matrices) : Type 0 where
  pub polynomials : List (List ℕ)
  pub count : length polynomials ≡ s
  pub list : IsCoprimeList o polynomials
  pub rows : IsNiederreiter o m polynomials a
