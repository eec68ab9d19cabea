use Rattle.mt_derive.specs.Events.{entries_of}
use Rattle.mt_derive.proofs.TreeLemmas.{IsValue-unique}
use Rattle.mt_derive.proofs.laws.one_value.Goals as goal

pub returns : goal.returns
returns c = λ b rules E. IsValue-unique b rules (entries_of E)
