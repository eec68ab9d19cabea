use Rattle.std.proofs.Common.{◌≡◌, ◌<◌, subst, arith}
use Rattle.mt_import.specs.declared.headers.Header.{Header}
use Rattle.mt_import.proofs.tests.is_small.Goals as goal

pub returns-in_default : goal.returns-in_default
returns-in_default c = λ small h has.
    let found = c.in_default.ensures.only h has in
    let none = c.in_default.is in
    absurd (cc)

pub returns : goal.returns
returns c = λ small h has.
    let found = c.in-Some.ensures.only h has in
    let some = c.in-Some.is in
    let same : c.in-Some.header ≡ h = cc in
    subst (λ (x : Header). (x.m < 256) × (x.s < 256) × (x.depth < 256)) same
    (omega (arith, c.if-header-gt255.false), omega (arith, c.if-header-gt255-2.false), omega (arith, c.if-header-gt255-3.false))
