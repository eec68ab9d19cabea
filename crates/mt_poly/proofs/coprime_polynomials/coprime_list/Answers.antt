use Rattle.std.proofs.Common.{◌≡◌, refl, arith, ◌+◌, ◌++◌, [], ◌∷◌, length, List, ℕ, map, sym, subst, ap, ◌∙◌}
use Rattle.std.specs.List.{All}
use Rattle.std.proofs.lemmas.List.{map_push, length_push}
use Rattle.std.proofs.lemmas.List.Elements.{All-push}
use Rattle.mt_linear.specs.declared.order.Order.{Order}
use Rattle.mt_linear.specs.Field.{number_of}
use Rattle.mt_poly.specs.declared.polynomials.Poly.{Poly}
use Rattle.mt_poly.specs.Polynomials.{Polynomial, IsMember}
use Rattle.mt_poly.specs.CoprimeLists.{number_by, MayFollow, IsNext, IsLeast, IsCoprimeList}
use Rattle.mt_poly.proofs.MemberLemmas.{walk_start, walk_push, list_push, list_members, list_coprime}
use Rattle.mt_poly.proofs.coprime_polynomials.coprime_list.Goals as goal

pub loop-init : goal.loop-init
loop-init c = rw c.in_ok-list.ensures.items (record {
  size = refl;
  orders = λ i d l. absurd (omega arith);
  candidate_order = c.in_ok-candidate.ensures.order;
  least = λ r h. omega (arith, c.in_ok-candidate.ensures.number, c.number.ensures, walk_start c.args.order r h.0);
  members = λ n l. absurd (omega arith);
})

pub next_member-requires-clause-least : goal.next_member-requires-clause-least
next_member-requires-clause-least c =
    subst (λ (ps : List Poly). IsLeast c.args.order (map (λ (x : Poly). x.coefficients) ps) c.loop.candidate.coefficients) (sym c.deref.ensures.value) c.loop.invariant.least

pub next_member-requires-clause-members : goal.next_member-requires-clause-members
next_member-requires-clause-members c =
    subst (λ (ps : List Poly). All (IsMember c.args.order) (map (λ (x : Poly). x.coefficients) ps)) (sym c.deref.ensures.value) (list_members c.args.order _ c.loop.invariant.members)

pub loop-preserved : goal.loop-preserved
loop-preserved c =
    let o : Order = c.args.order in
    let ps = c.loop.list.items in
    let p = c.in_ok-next.next in
    let lists : List (List ℕ) = map (λ (x : Poly). x.coefficients) ps in
    let next : IsNext o lists p.coefficients =
    subst (λ (qs : List Poly). IsNext o (map (λ (x : Poly). x.coefficients) qs) p.coefficients) c.deref.ensures.value c.in_ok-next.ensures.next in
    let pushed : c.push.new.self.items ≡ ps ++ p ∷ [] = c.in_ok-push.ensures.items in
    let appended : map (λ (x : Poly). x.coefficients) c.push.new.self.items ≡ lists ++ p.coefficients ∷ [] =
    ap (map (λ (x : Poly). x.coefficients)) pushed ∙ map_push (λ (x : Poly). x.coefficients) ps p in
    let copied : c.in_ok-copy.field-0.order ≡ o = ap (λ (x : Polynomial). x.order) c.in_ok-copy.ensures ∙ c.in_ok-next.ensures.order in
    let more : number_by (number_of o) c.in_ok-candidate-2.candidate.coefficients ≡ number_by (number_of o) p.coefficients + 1 =
    subst (λ q. number_by (number_of q) c.in_ok-candidate-2.candidate.coefficients ≡ number_by (number_of q) p.coefficients + 1) copied
    (c.in_ok-candidate-2.ensures.number ∙ ap (λ (x : Polynomial). number_by (number_of c.in_ok-copy.field-0.order) x.coefficients + 1) c.in_ok-copy.ensures) in
    record {
      size = ap length pushed ∙ length_push ps p ∙ ap (λ n. n + 1) c.loop.invariant.size;
      orders = subst (All (λ (x : Poly). x.order ≡ o)) (sym pushed) (All-push (λ (x : Poly). x.order ≡ o) ps p c.loop.invariant.orders c.in_ok-next.ensures.order);
      candidate_order = c.in_ok-candidate-2.ensures.order ∙ copied;
      least = λ r h. omega (arith, more, walk_push o lists p.coefficients next r (subst (λ qs. MayFollow o qs r) appended h));
      members = subst (IsCoprimeList o) (sym appended)
          (list_push o lists p.coefficients c.loop.invariant.members next);
    }

pub returns-clause-members : goal.returns-clause-members
returns-clause-members c = list_members c.args.order _ c.loop.invariant.members

pub returns-clause-coprime : goal.returns-clause-coprime
returns-clause-coprime c = list_coprime c.args.order _ c.loop.invariant.members
