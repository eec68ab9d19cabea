use Rattle.std.proofs.Common.{◌≡◌, ℕ, ◌+◌, ◌-◌, ◌<◌, List, [], ◌∷◌, ◌++◌, length, get_or, take, refl, sym, ap, ◌∙◌, subst, arith}
use Rattle.std.proofs.lemmas.List.{take_all, length-map}
use Rattle.mt_linear.specs.declared.order.Order.{Order}
use Rattle.mt_linear.specs.Linear.{Gives, Independent, IsNoCombination}
use Rattle.mt_linear.specs.Vectors.{Digits, Inserts}
use Rattle.mt_linear.specs.Insertion.{Appends, Shows}
use Rattle.mt_linear.proofs.Reduction.{Independent-push}
use Rattle.mt_strength.specs.Dependence.{lists_of, AllOf, IsVector, IsRelation}
use Rattle.mt_strength.proofs.RowLemmas.{IsRelation-by, whole, lists_more}
use Rattle.mt_strength.proofs.dependence.dependence.Goals as goal

vector_at : (o : Order) (m : ℕ) (rows : List Digits) (n : ℕ) (row : Digits) → AllOf o m rows → n < length rows → row ≡ get_or rows n row → IsVector o m row
vector_at o m rows n row all l is = subst (IsVector o m) (sym is) (all n row l)

pub returns-in-Depends-clause-independent : goal.returns-in-Depends-clause-independent
returns-in-Depends-clause-independent g c =
    let v = vector_at c.args.order c.args.m c.args.rows.now c.loop-row.row-index c.row-item.result c.requires.all (omega arith) c.row-item.is in
    let shows : Shows c.loop-row.basis c.row-item.result c.insert.new.self c.in-Depends.coefficients = rw c.in-Depends.is at c.in_ok-insert.ensures.ok in
    let gives : Gives c.args.order (λ k. get_or c.in-Depends.coefficients.digits k 0) c.loop-row.basis.vectors c.row-item.result.digits =
    subst (λ (o : Order). Gives o (λ k. get_or c.in-Depends.coefficients.digits k 0) c.loop-row.basis.vectors c.row-item.result.digits) c.loop-row.invariant.order shows.gives in
    let o = c.args.order in
    let digits = c.in_ok-digits-in-Depends.digits.items in
    let same : digits ≡ c.in-Depends.coefficients.digits = c.in_ok-digits-in-Depends.ensures.items ∙ c.digits.ensures.value in
    let gives' : Gives o (λ k. get_or digits k 0) c.loop-row.basis.vectors c.row-item.result.digits =
    subst (λ (x : List ℕ). Gives o (λ k. get_or x k 0) c.loop-row.basis.vectors c.row-item.result.digits) (sym same) gives in
    let relation : IsRelation o (c.loop-row.basis.vectors ++ c.row-item.result.digits ∷ []) c.push.new.self.items =
    IsRelation-by o c.loop-row.basis.vectors c.row-item.result.digits digits c.negated-digits.result.items c.push.new.self.items v.elements gives'
    (ap length same ∙ shows.size) c.negated-digits.ensures.elements c.negated-digits.ensures.size c.negated-digits.ensures.negative c.in_ok-push-in-Depends.ensures.items in
    let more : c.loop-row.basis.vectors ++ c.row-item.result.digits ∷ [] ≡ take (c.loop-row.row-index + 1) (lists_of c.args.rows.now) =
    ap (λ (xs : List (List ℕ)). xs ++ c.row-item.result.digits ∷ []) c.loop-row.invariant.vectors
    ∙ sym (lists_more c.args.rows.now c.loop-row.row-index c.row-item.result (omega arith) c.row-item.is) in
    let lists_size = length-map c.args.rows.now (λ (x : Digits). x.digits) in
    let prefix : Independent o (take (length (lists_of c.args.rows.now) - 1) (lists_of c.args.rows.now)) =
    subst (λ n. Independent o (take (n - 1) (lists_of c.args.rows.now))) (sym lists_size) c.requires.prefix in
    let all : IsRelation o (lists_of c.args.rows.now) c.push.new.self.items =
    whole o (lists_of c.args.rows.now) c.loop-row.row-index c.push.new.self.items (omega arith) prefix (subst (λ (xs : List (List ℕ)). IsRelation o xs c.push.new.self.items) more relation) in
    rw c.of_elements.ensures (refl, all)

pub loop-row-preserved : goal.loop-row-preserved
loop-row-preserved g c =
    let l : c.loop-row.row-index < length c.args.rows.now = omega arith in
    let v = vector_at c.args.order c.args.m c.args.rows.now c.loop-row.row-index c.row-item.result c.requires.all l c.row-item.is in
    let fresh : Appends c.loop-row.basis c.row-item.result c.insert.new.self = rw c.in-Fresh.is at c.in_ok-insert.ensures.ok in
    let vectors : c.insert.new.self.vectors ≡ c.loop-row.basis.vectors ++ c.row-item.result.digits ∷ [] = ap (λ (b : Inserts). b.vectors) fresh.appended in
    let none : IsNoCombination c.args.order c.loop-row.basis.vectors c.row-item.result.digits =
    subst (λ (o : Order). IsNoCombination o c.loop-row.basis.vectors c.row-item.result.digits) c.loop-row.invariant.order fresh.none in
    record {
      order = ap (λ (b : Inserts). b.order) fresh.appended ∙ c.loop-row.invariant.order;
      columns = ap (λ (b : Inserts). b.columns) fresh.appended ∙ c.loop-row.invariant.columns;
      vectors = vectors ∙ ap (λ (xs : List (List ℕ)). xs ++ c.row-item.result.digits ∷ []) c.loop-row.invariant.vectors
          ∙ sym (lists_more c.args.rows.now c.loop-row.row-index c.row-item.result l c.row-item.is);
      independent = subst (Independent c.args.order) (sym vectors) (Independent-push c.args.order c.loop-row.basis.vectors c.row-item.result.digits v.elements c.loop-row.invariant.independent none);
      steps = omega (arith, c.insert.ensures.steps, c.loop-row.invariant.steps);
    }

pub returns-clause-independent : goal.returns-clause-independent
returns-clause-independent g c =
    let e : take c.loop-row.row-index (lists_of c.args.rows.now) ≡ lists_of c.args.rows.now =
    take_all c.loop-row.row-index (lists_of c.args.rows.now) (let s = length-map c.args.rows.now (λ (v : Digits). v.digits) in omega arith) in
    subst (Independent c.args.order) (c.loop-row.invariant.vectors ∙ e) c.loop-row.invariant.independent
