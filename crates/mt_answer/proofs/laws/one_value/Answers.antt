use Rattle.mt_answer.proofs.ValueLemmas.{value_one}
use Rattle.mt_answer.proofs.laws.one_value.Goals as goal

pub returns : goal.returns
returns c = value_one
