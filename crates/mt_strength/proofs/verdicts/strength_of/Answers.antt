use Rattle.std.proofs.Common.{◌≡◌, ◌+◌, arith, subst}
use Rattle.mt_system.specs.Rows.{Strength, row_of, rows_of}
use Rattle.mt_strength.specs.Verdicts.{IsFirstDependent}
use Rattle.mt_strength.proofs.RowLemmas.{relation_dependent, Independent-none}
use Rattle.mt_strength.proofs.verdicts.strength_of.Goals as goal

pub loop-passed-init : goal.loop-passed-init
loop-passed-init c = λ x is size. Independent-none c.args.system.now.order (row_of c.args.system.now) x size

pub returns-in-Dependent : goal.returns-in-Dependent
returns-in-Dependent c =
    let a = c.args.system.now in
    let found : IsFirstDependent a (c.loop-passed.passed + 1) c.in-Dependent.choice c.in-Dependent.coefficients = rw c.in-Dependent.is at c.in_ok-check.ensures in (
      omega (arith, c.m-passed-end.ensures, c.loop-passed-test.true),
      c.loop-passed.invariant,
      λ j l within strong.
          relation_dependent a.order (rows_of a c.in-Dependent.choice) c.in-Dependent.coefficients.digits found.relation (strong c.in-Dependent.choice found.choice (omega (arith, l, found.size))),
    )

pub returns : goal.returns
returns c =
    let all : c.loop-passed.passed ≡ c.m.result = omega (arith, c.m.ensures.value, c.m-passed-end.ensures) in
    (omega (arith, c.m.ensures.value), subst (Strength c.args.system.now) all c.loop-passed.invariant, λ j l within strong. absurd (omega (arith, l, within, c.m.ensures.value)))
