use Rattle.std.proofs.Common.{◌≡◌, map, string_bytes, subst}
use Rattle.mint.specs.Words.{IsTask}
use Rattle.mint.proofs.words.read_words.Goals as goal

pub returns-in_err-task : goal.returns-in_err-task
returns-in_err-task c =
    rw c.from_residual-in_err-task.ensures (λ command is.
    let read = c.in_ok-word.ensures in
    let said = is.words_are in
    let same : is.rest ≡ map string_bytes c.in_ok-word.words.now = cc in
    c.in_err-task.ensures command.task (subst (λ r. IsTask r command.task) same is.task))
