use Rattle.std.proofs.Common.{◌≡◌, refl, ap}
use Rattle.std.proofs.lemmas.Result.{IfOk-weaker, IfErr-weaker, IfErr-at_err}
use Rattle.mint.specs.declared.words.Task.TheVariants as task
use Rattle.mint.specs.Doing.{status_given_up}
use Rattle.mint.specs.Run.{World}
use Rattle.mint.specs.Statuses.{ending}
use Rattle.mint.proofs.DoingLemmas.{opened_bad, opened_done, opened_stopped, generate_part}
use Rattle.mint.proofs.generating.generated_all.Goals as goal

pub returns-in-Ok-clause-answer : goal.returns-in-Ok-clause-answer
returns-in-Ok-clause-answer g c =
    let s = c.in-Ok.service in
    let bounds : s.bounds ≡ c.args.bounds = rw c.in-Ok.is at c.in_ok-service.ensures.bounds in
    let rules : s.rules ≡ c.args.rules = rw c.in-Ok.is at c.in_ok-service.ensures.rules in
    let stands = rw c.in-Ok.is at c.in_ok-service.ensures.stands in
    let did = c.import_generated.ensures in
    let tell = rw (bounds, rules) at did.told in
    let answer = rw (bounds, rules) at did.answer in
    IfOk-weaker c.import_generated.result _ _
    (λ a h x y z.
    let before : World = record { input = x; output = y; records = g.K.Keeper.records c.args.keeper.now } in
    let after : World = record { input = x; output = z; records = g.K.Keeper.records c.import_generated.new.keeper } in
    opened_done _ _ c.args.bounds c.args.rules _ before after (g.K.Keeper.records c.opened.new.keeper) s.events c.import_generated.new.service.events _ _ a.status a.text.items
    stands did.put tell h)
    answer

pub returns-in-Ok-clause-stopped : goal.returns-in-Ok-clause-stopped
returns-in-Ok-clause-stopped g c =
    let s = c.in-Ok.service in
    let bounds : s.bounds ≡ c.args.bounds = rw c.in-Ok.is at c.in_ok-service.ensures.bounds in
    let rules : s.rules ≡ c.args.rules = rw c.in-Ok.is at c.in_ok-service.ensures.rules in
    let stands = rw c.in-Ok.is at c.in_ok-service.ensures.stands in
    let did = c.import_generated.ensures in
    let tell = rw (bounds, rules) at did.told in
    let stopped = rw (bounds, rules) at did.stopped in
    IfErr-weaker c.import_generated.result _ _
    (λ e h x y z.
    let before : World = record { input = x; output = y; records = g.K.Keeper.records c.args.keeper.now } in
    let after : World = record { input = x; output = z; records = g.K.Keeper.records c.import_generated.new.keeper } in
    opened_stopped _ _ c.args.bounds c.args.rules (task.Generate c.args.seed c.args.count) before after (g.K.Keeper.records c.opened.new.keeper) s.events
    c.import_generated.new.service.events _ _ (status_given_up e) stands did.put tell
    (generate_part c.args.bounds c.args.rules before after s.events c.import_generated.new.service.events c.args.seed c.args.count e h.0 h.1))
    stopped

pub returns-in-Ok-clause-finished : goal.returns-in-Ok-clause-finished
returns-in-Ok-clause-finished g c = IfOk-weaker c.import_generated.result _ _ (λ a h. ap ending h.0) c.import_generated.ensures.answer

pub returns-in-Ok-clause-unread : goal.returns-in-Ok-clause-unread
returns-in-Ok-clause-unread g c = λ e. (IfErr-at_err _ e c.import_generated.ensures.stopped).0 refl

pub returns-in-Err-clause-answer : goal.returns-in-Err-clause-answer
returns-in-Err-clause-answer g c = λ x y z.
    let before : World = record { input = x; output = y; records = g.K.Keeper.records c.args.keeper.now } in
    let after : World = record { input = x; output = z; records = g.K.Keeper.records c.opened.new.keeper } in
    opened_bad _ _ c.args.bounds c.args.rules _ before after c.args.feeds.now.items c.in-Err.answer.status c.in-Err.answer.text.items refl (rw c.in-Err.is at c.in_ok-service.ensures.bad)
