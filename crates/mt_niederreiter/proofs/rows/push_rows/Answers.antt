use Rattle.std.proofs.Common.{◌≡◌, ℕ, suc, ◌+◌, ◌-◌, ◌*◌, ◌/◌, ◌%◌, ◌≤◌, List, [], ◌++◌, length, map, take, get_or, ap, ◌∙◌, sym, subst, arith, length-take}
use Rattle.mt_linear.specs.declared.order.Order.{Order}
use Rattle.mt_poly.specs.declared.polynomials.Poly.{Poly}
use Rattle.mt_poly.specs.Polynomials.{IsMember, IsPolynomial, IsPower}
use Rattle.mt_poly.proofs.ListLemmas.{take_elements}
use Rattle.mt_poly.proofs.MemberLemmas.{positive_member}
use Rattle.mt_niederreiter.specs.Expansions.{Expands, monomial, IsRow, degree_of}
use Rattle.mt_niederreiter.specs.Rows.{AreRows, times_over}
use Rattle.mt_niederreiter.proofs.StepLemmas.{polynomial_at, member_at, one_power, times_none, times_next, power_lead, power_above, power_row, rows_push}
use Rattle.mt_niederreiter.proofs.rows.push_rows.Goals as goal

pub overflow_sub-degree : goal.overflow_sub-degree
overflow_sub-degree c =
    let o : Order = c.args.order in
    let list : List Poly = c.args.list.now in
    let p : Poly = c.index-list-coordinate.result in
    let member : IsMember o p.coefficients = member_at o list c.args.coordinate p c.requires.coordinate_in c.index-list-coordinate.is c.requires.members in
    omega (arith, positive_member o p.coefficients member, ap length c.coefficients.ensures.value)

pub loop-row-init : goal.loop-row-init
loop-row-init c =
    let o : Order = c.args.order in
    let list : List Poly = c.args.list.now in
    let p : Poly = c.index-list-coordinate.result in
    let member : IsMember o p.coefficients = member_at o list c.args.coordinate p c.requires.coordinate_in c.index-list-coordinate.is c.requires.members in
    record {
      order = c.in_ok-power.ensures.order;
      power =
          subst (λ n. IsPower o p.coefficients n c.in_ok-power.power.coefficients) (sym (times_none (degree_of p.coefficients) (positive_member o p.coefficients member)))
          (one_power o p.coefficients c.in_ok-power.power.coefficients c.in_ok-power.ensures.polynomial c.in_ok-power.ensures.number);
      rows = subst (λ n. AreRows o c.args.m (map (λ (x : Poly). x.coefficients) list) n c.args.digits.now.items) {x = c.args.coordinate * c.args.m} (omega arith)
          c.requires.rows_before;
    }

pub power_of_row-requires-clause-member : goal.power_of_row-requires-clause-member
power_of_row-requires-clause-member c =
    let o : Order = c.args.order in
    let list : List Poly = c.args.list.now in
    let p : Poly = c.index-list-coordinate.result in
    let member : IsMember o p.coefficients = member_at o list c.args.coordinate p c.requires.coordinate_in c.index-list-coordinate.is c.requires.members in
    let order : p.order ≡ o = ap (λ (x : Poly). x.order) c.index-list-coordinate.is ∙ c.requires.orders c.args.coordinate p c.requires.coordinate_in in
    subst (λ q. IsMember q p.coefficients) (sym order) member

pub nonzero_rem-u : goal.nonzero_rem-u
nonzero_rem-u c =
    let o : Order = c.args.order in
    let list : List Poly = c.args.list.now in
    let p : Poly = c.index-list-coordinate.result in
    let member : IsMember o p.coefficients = member_at o list c.args.coordinate p c.requires.coordinate_in c.index-list-coordinate.is c.requires.members in
    omega (arith, positive_member o p.coefficients member, ap length c.coefficients.ensures.value)

pub expansion-requires-clause-monic : goal.expansion-requires-clause-monic
expansion-requires-clause-monic c =
    let o : Order = c.args.order in
    let list : List Poly = c.args.list.now in
    let p : Poly = c.index-list-coordinate.result in
    let member : IsMember o p.coefficients = member_at o list c.args.coordinate p c.requires.coordinate_in c.index-list-coordinate.is c.requires.members in
    let order : p.order ≡ o = ap (λ (x : Poly). x.order) c.index-list-coordinate.is ∙ c.requires.orders c.args.coordinate p c.requires.coordinate_in in
    let D = c.coefficients-in-loop-row.result.now in
    let is : IsPolynomial o D =
    subst (λ q. IsPolynomial q D) (c.in_ok-power-2.ensures.order ∙ order)
    (subst (IsPolynomial c.in_ok-power-2.power.order) (sym c.coefficients-in-loop-row.ensures.value) c.coefficients-in-loop-row.ensures.system) in
    let power : IsPower o p.coefficients (suc (c.loop-row.row / degree_of p.coefficients)) D =
    subst (IsPower o p.coefficients (suc (c.loop-row.row / degree_of p.coefficients))) (sym c.coefficients-in-loop-row.ensures.value)
    (subst (λ q. IsPower q p.coefficients (suc (c.loop-row.row / degree_of p.coefficients)) c.in_ok-power-2.power.coefficients) order c.in_ok-power-2.ensures.power) in
    power_lead o p.coefficients c.loop-row.row D member is power

pub expansion-requires-clause-numerator : goal.expansion-requires-clause-numerator
expansion-requires-clause-numerator c =
    let o : Order = c.args.order in
    let list : List Poly = c.args.list.now in
    let p : Poly = c.index-list-coordinate.result in
    let member : IsMember o p.coefficients = member_at o list c.args.coordinate p c.requires.coordinate_in c.index-list-coordinate.is c.requires.members in
    let order : p.order ≡ o = ap (λ (x : Poly). x.order) c.index-list-coordinate.is ∙ c.requires.orders c.args.coordinate p c.requires.coordinate_in in
    let D = c.coefficients-in-loop-row.result.now in
    let is : IsPolynomial o D =
    subst (λ q. IsPolynomial q D) (c.in_ok-power-2.ensures.order ∙ order)
    (subst (IsPolynomial c.in_ok-power-2.power.order) (sym c.coefficients-in-loop-row.ensures.value) c.coefficients-in-loop-row.ensures.system) in
    let power : IsPower o p.coefficients (suc (c.loop-row.row / degree_of p.coefficients)) D =
    subst (IsPower o p.coefficients (suc (c.loop-row.row / degree_of p.coefficients))) (sym c.coefficients-in-loop-row.ensures.value)
    (subst (λ q. IsPower q p.coefficients (suc (c.loop-row.row / degree_of p.coefficients)) c.in_ok-power-2.power.coefficients) order c.in_ok-power-2.ensures.power) in
    let e : c.loop-row.row % (length c.coefficients.result.now - 1) ≡ c.loop-row.row % degree_of p.coefficients =
    ap (λ (xs : List ℕ). c.loop-row.row % (length xs - 1)) c.coefficients.ensures.value in
    omega (arith, e, power_above o p.coefficients c.loop-row.row D member is power)

pub loop-row-preserved : goal.loop-row-preserved
loop-row-preserved c =
    let o : Order = c.args.order in
    let list : List Poly = c.args.list.now in
    let p : Poly = c.index-list-coordinate.result in
    let member : IsMember o p.coefficients = member_at o list c.args.coordinate p c.requires.coordinate_in c.index-list-coordinate.is c.requires.members in
    let order : p.order ≡ o = ap (λ (x : Poly). x.order) c.index-list-coordinate.is ∙ c.requires.orders c.args.coordinate p c.requires.coordinate_in in
    let D = c.coefficients-in-loop-row.result.now in
    let is : IsPolynomial o D =
    subst (λ q. IsPolynomial q D) (c.in_ok-power-2.ensures.order ∙ order)
    (subst (IsPolynomial c.in_ok-power-2.power.order) (sym c.coefficients-in-loop-row.ensures.value) c.coefficients-in-loop-row.ensures.system) in
    let power : IsPower o p.coefficients (suc (c.loop-row.row / degree_of p.coefficients)) D =
    subst (IsPower o p.coefficients (suc (c.loop-row.row / degree_of p.coefficients))) (sym c.coefficients-in-loop-row.ensures.value)
    (subst (λ q. IsPower q p.coefficients (suc (c.loop-row.row / degree_of p.coefficients)) c.in_ok-power-2.power.coefficients) order c.in_ok-power-2.ensures.power) in
    let ps : List (List ℕ) = map (λ (x : Poly). x.coefficients) list in
    let i : ℕ = c.args.coordinate in
    let j : ℕ = c.loop-row.row in
    let m : ℕ = c.args.m in
    let ds = c.loop-row.digits.items in
    let w = c.in_ok-terms.terms.items in
    let own : get_or ps i [] ≡ p.coefficients = polynomial_at list i p c.requires.coordinate_in c.index-list-coordinate.is in
    let e : j % (length c.coefficients.result.now - 1) ≡ j % degree_of p.coefficients =
    ap (λ (xs : List ℕ). j % (length xs - 1)) c.coefficients.ensures.value in
    let expands : Expands o (monomial (j % (length c.coefficients.result.now - 1))) D (length D - 1) w = c.in_ok-terms.ensures.terms in
    let row : IsRow o p.coefficients (degree_of p.coefficients) j m (take m w) =
    power_row o p.coefficients j D member is power m (j % (length c.coefficients.result.now - 1)) w e expands c.in_ok-terms.ensures.enough in
    let pushed : c.extend_from_slice.new.self.items ≡ ds ++ take m w =
    c.in_ok-extend_from_slice.ensures.items ∙ ap (λ xs. ds ++ take m xs) c.deref.ensures.value in
    record {
      order = c.in_ok-power-2.ensures.order ∙ order;
      power =
          subst (λ q. IsPower q p.coefficients (times_over (j + 1) (degree_of p.coefficients)) c.in_ok-power-2.power.coefficients) order
          (subst (λ n. IsPower p.order p.coefficients n c.in_ok-power-2.power.coefficients) (sym (times_next j (degree_of p.coefficients) (positive_member o p.coefficients member)))
          c.in_ok-power-2.ensures.power);
      rows =
          subst (AreRows o m ps (i * m + (j + 1))) (sym pushed)
          (subst (λ n. AreRows o m ps n (ds ++ take m w)) {x = i * m + j + 1} (omega arith)
          (rows_push o m ps i j ds (take m w) c.loop-row-test.true c.loop-row.invariant.rows
          (length-take m w ∙ (let l : m ≤ length w = c.in_ok-terms.ensures.enough in omega arith))
          (take_elements o m w expands.elements)
          (subst (λ xs. IsRow o xs (degree_of xs) j m (take m w)) (sym own) row)));
    }

pub returns : goal.returns
returns c = record {
  rows =
      subst (λ n. AreRows c.args.order c.args.m (map (λ (x : Poly). x.coefficients) c.args.list.now) n c.loop-row.digits.items)
      {x = c.args.coordinate * c.args.m + c.loop-row.row} {y = (c.args.coordinate + 1) * c.args.m} (omega arith) c.loop-row.invariant.rows;
}
