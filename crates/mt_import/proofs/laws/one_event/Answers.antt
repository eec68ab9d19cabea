use Rattle.mt_import.proofs.EventLemmas.{one_withdrawal, one_kind, not_refused, one_event_refusal}
use Rattle.mt_import.proofs.laws.one_event.Goals as goal

pub returns : goal.returns
returns c = record { withdrawal = one_withdrawal; kind = one_kind; either = not_refused; refusal = one_event_refusal }
