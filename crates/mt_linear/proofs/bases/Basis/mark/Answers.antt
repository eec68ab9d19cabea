use Rattle.std.proofs.Common.{arith, length, ◌≤◌}
use Rattle.mt_linear.proofs.Prefixes.{IsBasis-whole, rows_few}
use Rattle.mt_linear.proofs.bases.Basis.mark.Goals as goal

pub overflow_cast-result : goal.overflow_cast-result
overflow_cast-result c =
    let few : length c.self.inside.rows.items ≤ c.self.inside.columns = rows_few c.self.inside.order c.self.inside.columns c.self.inside.rows.items (IsBasis-whole c.self.inside.order c.self.inside.columns c.self.inside.rows.items c.self.invariant).reduced in
    omega (arith, c.len.ensures)

pub returns-clause-independent : goal.returns-clause-independent
returns-clause-independent c = rw (← c.self.view_is) (IsBasis-whole c.self.inside.order c.self.inside.columns c.self.inside.rows.items c.self.invariant).independent
