use Rattle.std.proofs.Common.{◌≡◌, length, map}
use Rattle.std.specs.List.{All}
use Rattle.mt_poly.specs.CoprimeLists.{IsCoprimeList, IsLeast}
use Rattle.mt_poly.proofs.coprime_polynomials.coprime_list.Given as goal

abbrev pub invariant-loop : goal.invariant-loop
invariant-loop l = record {
  size : length l.list.items ≡ l.counter;
  orders : All (λ p. p.order ≡ l.order) l.list.items;
  candidate_order : l.candidate.order ≡ l.order;
  least : IsLeast l.order (map (λ p. p.coefficients) l.list.items) l.candidate.coefficients;
  members : IsCoprimeList l.order (map (λ p. p.coefficients) l.list.items);
}
