use Rattle.std.proofs.Common.{◌≡◌, ℕ, ◌+◌, ◌<◌, List, length, map, sym, ap, ◌∙◌, subst, arith, below_more}
use Rattle.std.specs.List.{All}
use Rattle.std.proofs.lemmas.List.{length-map, length_push, get_or_append_left, get_or_push}
use Rattle.mt_poly.specs.declared.polynomials.Poly.{Poly}
use Rattle.mt_poly.specs.Polynomials.{IsMember}
use Rattle.mt_poly.proofs.MemberLemmas.{positive_member}
use Rattle.mt_niederreiter.specs.Matrices.{IsShownQuality}
use Rattle.mt_niederreiter.proofs.StepLemmas.{polynomial_at, member_at}
use Rattle.mt_niederreiter.proofs.MatrixLemmas.{shown_of, shown_more, shown_quality}
use Rattle.mt_niederreiter.proofs.quality_parameter.qualities.Goals as goal

pub overflow_sub-excess : goal.overflow_sub-excess
overflow_sub-excess c =
    let items : List Poly = c.deref-poly-items.result.now in
    let members : All (IsMember c.args.order) (map (λ (x : Poly). x.coefficients) items) =
    subst (λ (xs : List Poly). All (IsMember c.args.order) (map (λ (x : Poly). x.coefficients) xs)) (sym c.deref-poly-items.ensures.value) c.in_ok-list.ensures.members in
    let p : Poly = c.poly-item.result in
    let member : IsMember c.args.order p.coefficients = member_at c.args.order items c.loop-poly.poly-index p c.loop-poly-test.true c.poly-item.is members in
    omega (arith, positive_member c.args.order p.coefficients member, ap length c.coefficients.ensures.value)

pub loop-poly-preserved : goal.loop-poly-preserved
loop-poly-preserved c =
    let items : List Poly = c.deref-poly-items.result.now in
    let ps : List (List ℕ) = map (λ (x : Poly). x.coefficients) items in
    let i : ℕ = c.loop-poly.poly-index in
    let p : Poly = c.poly-item.result in
    let old = c.loop-poly.qualities.items in
    let below : i < length ps = omega (arith, length-map items (λ (x : Poly). x.coefficients)) in
    let size : length c.coefficients.result.now ≡ length p.coefficients = ap length c.coefficients.ensures.value in
    let more = shown_more ps i p.coefficients below (polynomial_at items i p c.loop-poly-test.true c.poly-item.is) in
    let sum : c.saturating_add-quality.result ≡ shown_of ps (i + 1) = omega (arith, more, size, c.saturating_add-quality.ensures, c.loop-poly.invariant.sum) in
    rw c.in_ok-push.ensures.items record {
      sum = sum;
      size = omega (arith, length_push old c.saturating_add-quality.result, c.loop-poly.invariant.size);
      each = below_more _ _
          (λ k h. get_or_append_left old _ 0 k (omega (arith, c.loop-poly.invariant.size)) ∙ c.loop-poly.invariant.each k h)
          (get_or_push old _ 0 i c.loop-poly.invariant.size ∙ sum);
    }

pub returns : goal.returns
returns c =
    let items : List Poly = c.deref-poly-items.result.now in
    let ps : List (List ℕ) = map (λ (x : Poly). x.coefficients) items in
    let all : length ps ≡ c.args.most =
    length-map items (λ (x : Poly). x.coefficients) ∙ ap length c.deref-poly-items.ensures.value ∙ c.in_ok-list.ensures.size in
    let count : c.loop-poly.poly-index ≡ c.args.most = omega (arith, all, length-map items (λ (x : Poly). x.coefficients)) in
    record {
      size = c.loop-poly.invariant.size ∙ count;
      each = λ i h.
          let below : i < c.args.most = h in
          subst (IsShownQuality c.args.order (i + 1)) (sym (c.loop-poly.invariant.each i (omega (arith, count, below))))
          (shown_quality c.args.order ps (i + 1) (rw c.deref-poly-items.ensures.value c.in_ok-list.ensures.list) (omega (arith, all, below)));
    }
