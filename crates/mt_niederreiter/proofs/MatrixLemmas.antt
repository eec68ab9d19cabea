-- The quality parameter of the coprime list, and the strength that Niederreiter's theorem gives the matrices.
use Rattle.std.proofs.Common.{◌≡◌, ℕ, ◌+◌, ◌-◌, ◌^◌, ◌<◌, ◌≤◌, min, List, [], length, take, get_or, refl, sym, ap, ◌∙◌, subst, subst₂, arith, get_or-take}
use Rattle.std.proofs.lemmas.List.{take-take, length-take-le}
use Rattle.std.proofs.lemmas.List.Sums.{sum_by_more}
use Rattle.mt_linear.specs.declared.order.Order.{Order}
use Rattle.mt_system.specs.Rows.{Matrices, SequenceStrength}
use Rattle.mt_poly.specs.CoprimeLists.{IsCoprimeList, IsNext}
use Rattle.mt_poly.proofs.MemberLemmas.{list_members, list_coprime, list_unique}
use Rattle.mt_niederreiter.specs.Expansions.{degree_of, quality_of}
use Rattle.mt_niederreiter.specs.Matrices.{IsQuality, IsShownQuality, IsMatricesOf}
use Rattle.mt_niederreiter.proofs.Bridge.{niederreiter}

-- there is one list of each length, and so one quality parameter
pub quality_unique : (o : Order) (s t u : ℕ) → IsQuality o s t → IsQuality o s u → t ≡ u
quality_unique o s t u x y =
    x.value ∙ ap quality_of (list_unique o x.polynomials y.polynomials x.list y.list (x.count ∙ sym y.count)) ∙ sym y.value

pub matrices_strength : (o : Order) (m s t : ℕ) (a : Matrices) → 1 ≤ m → 1 ≤ s → IsMatricesOf o m s a → IsQuality o s t → SequenceStrength a (m - t)
matrices_strength o m s t a columns coordinates x quality =
    let own : IsQuality o s (quality_of x.polynomials) = record { polynomials = x.polynomials; count = x.count; list = x.list; value = refl } in
    subst (λ n. SequenceStrength a (m - n)) (quality_unique o s (quality_of x.polynomials) t own quality)
    (niederreiter o m x.polynomials a columns (omega (arith, x.count)) (list_members o x.polynomials x.list) (list_coprime o x.polynomials x.list) x.rows)

-- ---- the first polynomials

-- their quality parameter, up to the greatest u32
abbrev pub shown_of : List (List ℕ) → ℕ → ℕ
shown_of ps n = min (quality_of (take n ps)) (2 ^ 32 - 1)

-- one more adds its degree less 1
pub shown_more : (ps : List (List ℕ)) (i : ℕ) (p : List ℕ) → i < length ps → get_or ps i [] ≡ p
    → shown_of ps (i + 1) ≡ min (shown_of ps i + min (degree_of p - 1) (2 ^ 32 - 1)) (2 ^ 32 - 1)
shown_more ps i p below is =
    let more : quality_of (take (i + 1) ps) ≡ quality_of (take i ps) + (degree_of p - 1) =
    sum_by_more (λ (q : List ℕ). degree_of q - 1) ps i [] below ∙ ap (λ (q : List ℕ). quality_of (take i ps) + (degree_of q - 1)) is in
    omega (arith, more)

pub shown_quality : (o : Order) (ps : List (List ℕ)) (n : ℕ) → IsCoprimeList o ps → n ≤ length ps → IsShownQuality o n (shown_of ps n)
shown_quality o ps n list within = (quality_of (take n ps), record { polynomials = take n ps; count = size; list = prefix; value = refl }, refl)
  where
    size : length (take n ps) ≡ n
    size = length-take-le n ps within

    prefix : IsCoprimeList o (take n ps)
    prefix k h =
        let below : k < n = omega (arith, size) in
        subst₂ (IsNext o) (sym (take-take k n ps (omega arith))) (sym (get_or-take n ps k _ below)) (list k (omega arith))
