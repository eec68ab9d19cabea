use Rattle.std.proofs.Common.{◌≡◌, ℕ, ◌+◌, ◌*◌, List, length, map, ◌∙◌, sym, subst, arith}
use Rattle.std.specs.List.{All}
use Rattle.std.proofs.lemmas.List.{length-map}
use Rattle.mt_linear.specs.declared.order.Order.{Order}
use Rattle.mt_poly.specs.declared.polynomials.Poly.{Poly}
use Rattle.mt_poly.specs.Polynomials.{IsMember}
use Rattle.mt_niederreiter.specs.Rows.{AreRows}
use Rattle.mt_niederreiter.proofs.StepLemmas.{system_rows}
use Rattle.mt_niederreiter.proofs.MatrixLemmas.{matrices_strength}
use Rattle.mt_niederreiter.proofs.generator_matrices.matrices.Goals as goal

pub push_rows-requires-clause-members : goal.push_rows-requires-clause-members
push_rows-requires-clause-members c =
    subst (λ (items : List Poly). All (IsMember c.args.order) (map (λ (x : Poly). x.coefficients) items)) (sym c.deref.ensures.value) c.in_ok-list.ensures.members

pub loop-coordinate-preserved : goal.loop-coordinate-preserved
loop-coordinate-preserved c =
    subst (λ (items : List Poly). AreRows c.args.order c.args.m (map (λ (x : Poly). x.coefficients) items) ((c.loop-coordinate.coordinate + 1) * c.args.m) c.push_rows.new.digits.items)
    c.deref.ensures.value c.in_ok-push_rows.ensures.rows

pub returns-clause-rows : goal.returns-clause-rows
returns-clause-rows c =
    let o : Order = c.args.order in
    let ps : List (List ℕ) = map (λ (x : Poly). x.coefficients) c.in_ok-list.list.items in
    let size : length ps ≡ c.args.s = length-map c.in_ok-list.list.items (λ (x : Poly). x.coefficients) ∙ c.in_ok-list.ensures.size in
    let count : c.loop-coordinate.coordinate ≡ c.args.s = omega (arith, c.in_ok-list.ensures.size) in
    let rows : AreRows o c.args.m ps (c.args.s * c.args.m) c.loop-coordinate.digits.items =
    subst (λ n. AreRows o c.args.m ps (n * c.args.m) c.loop-coordinate.digits.items) count c.loop-coordinate.invariant in
    record {
      polynomials = ps;
      count = size;
      list = c.in_ok-list.ensures.list;
      rows = system_rows o c.args.m c.args.s ps c.loop-coordinate.digits.items c.of_elements.result c.of_elements.ensures size rows;
    }

pub returns-clause-strength : goal.returns-clause-strength
returns-clause-strength c = λ t.
    matrices_strength c.args.order c.args.m c.args.s t c.of_elements.result c.requires.columns c.requires.coordinates (returns-clause-rows c)
