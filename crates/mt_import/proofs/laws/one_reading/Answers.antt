use Rattle.mt_import.proofs.LawLemmas.{one_import, not_both, one_refusal}
use Rattle.mt_import.proofs.laws.one_reading.Goals as goal

pub returns : goal.returns
returns c = record { import = one_import; either = not_both; refusal = one_refusal }
