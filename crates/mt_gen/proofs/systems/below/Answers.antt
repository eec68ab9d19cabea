use Rattle.std.proofs.Common.{◌%◌, ap}
use Rattle.mt_gen.proofs.StreamLemmas.{first_word, first_state}
use Rattle.mt_gen.proofs.systems.below.Goals as goal

pub returns-clause-value : goal.returns-clause-value
returns-clause-value c = ap (λ w. w % c.args.limit) (first_word c.args.stream.now c.next_word.result c.next_word.new.self c.next_word.ensures)

pub returns-clause-stream : goal.returns-clause-stream
returns-clause-stream c = first_state c.args.stream.now c.next_word.result c.next_word.new.self c.next_word.ensures
