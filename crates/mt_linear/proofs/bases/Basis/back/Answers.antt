use Rattle.std.proofs.Common.{refl}
use Rattle.mt_linear.proofs.Prefixes.{IsBasis-take, vectors_take}
use Rattle.mt_linear.proofs.bases.Basis.back.Goals as goal

pub invariant_of-self : goal.invariant_of-self
invariant_of-self c = rw c.truncate.ensures.items (IsBasis-take c.self.inside.order c.self.inside.columns c.self.inside.rows.items c.args.mark c.self.invariant)

pub returns : goal.returns
returns c = rw (c.truncate.ensures.items, vectors_take) (rw (← c.self.view_is) refl)
