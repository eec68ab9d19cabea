use Rattle.std.proofs.Common.{◌∙◌, refl, sym}
use Rattle.mt_derive.specs.Events.{entries_of}
use Rattle.mt_table.proofs.FixedLemmas.{fixed_same}
use Rattle.mt_table.proofs.table.Table.copy.Goals as goal

pub invariant_of-result : goal.invariant_of-result
invariant_of-result c =
    let v = c.self.inside.work in
    let w = c.in_ok-work.work in
    let same = c.in_ok-work.ensures in
    let sinces = c.in_ok-changes.ensures in (
      rw c.in_ok-imports.ensures (fixed_same v w (entries_of c.self.inside.imports.events) same.bounds same.rules same.values same.flags (rw same.nodes refl) c.self.invariant.0),
      rw (c.in_ok-imports.ensures, same.bounds) c.self.invariant.1,
      sinces.bounds ∙ c.self.invariant.2 ∙ sym same.bounds,
      rw (same.bounds, same.rules, c.in_ok-imports.ensures, sinces.sinces) c.self.invariant.3,
    )
