use Rattle.std.proofs.Common.{◌≡◌, length}
use Rattle.mt_linear.specs.Linear.{AllElements}
use Rattle.mt_niederreiter.proofs.TermLemmas.{Begins}
use Rattle.mt_niederreiter.proofs.expansions.expansion.Given as goal

abbrev pub invariant-loop-l : goal.invariant-loop-l
invariant-loop-l l = record {
  size : length l.terms.items ≡ l.l;
  elements : AllElements l.order l.terms.items;
  begins : Begins l.order l.divisor l.degree l.u l.terms.items;
}
