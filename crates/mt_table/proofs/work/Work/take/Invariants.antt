use Rattle.std.proofs.Common.{◌≡◌, ◌-◌, vec_len}
use Rattle.mt_table.proofs.work.Work.take.Given as goal

abbrev pub invariant-loop-self : goal.invariant-loop-self
invariant-loop-self l = (l.self.bounds ≡ l.fn.self.bounds) × (l.self.rules ≡ l.fn.self.rules) × (l.self.values ≡ l.fn.self.values) × (l.self.node_numbers ≡ l.fn.self.node_numbers) × (l.self.nodes ≡ l.fn.self.nodes) × (l.self.flags ≡ l.fn.self.flags)

abbrev pub decreases-loop-self : goal.decreases-loop-self
decreases-loop-self l = vec_len l.self.flags - l.self.from
