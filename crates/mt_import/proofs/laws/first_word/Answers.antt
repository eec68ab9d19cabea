use Rattle.mt_import.proofs.EventLemmas.{no_import, wants, import_event, import_refusal}
use Rattle.mt_import.proofs.laws.first_word.Goals as goal

pub returns : goal.returns
returns c = record { no_import = no_import; withdrawal = wants; import = import_event; refusal = import_refusal }
