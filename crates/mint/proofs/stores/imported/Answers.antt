use Rattle.std.proofs.Common.{◌≡◌, refl}
use Rattle.std.proofs.lemmas.Result.{IfOk-weaker, IfErr-weaker}
use Rattle.mint.specs.declared.words.Task.TheVariants as task
use Rattle.mint.specs.Doing.{status_given_up}
use Rattle.mint.specs.Run.{World}
use Rattle.mint.proofs.DoingLemmas.{opened_bad, opened_done, opened_stopped, import_part}
use Rattle.mint.proofs.stores.imported.Goals as goal

pub returns-in-Ok-clause-answer : goal.returns-in-Ok-clause-answer
returns-in-Ok-clause-answer g c =
    let s = c.in-Ok.service in
    let bounds : s.bounds ≡ c.args.bounds = rw c.in-Ok.is at c.in_ok-service.ensures.bounds in
    let rules : s.rules ≡ c.args.rules = rw c.in-Ok.is at c.in_ok-service.ensures.rules in
    let stands = rw c.in-Ok.is at c.in_ok-service.ensures.stands in
    let did = c.import_input.ensures in
    let tell = rw (bounds, rules) at did.told in
    let answer = rw (bounds, rules) at did.answer in
    IfOk-weaker c.import_input.result _ _
    (λ a h x y.
    let before : World = record { input = g.R.Source.left c.args.input.now; output = x; records = g.K.Keeper.records c.args.keeper.now } in
    let after : World = record { input = g.R.Source.left c.import_input.new.input; output = y; records = g.K.Keeper.records c.import_input.new.keeper } in
    opened_done _ _ c.args.bounds c.args.rules _ before after (g.K.Keeper.records c.opened.new.keeper) s.events c.import_input.new.service.events _ _ a.status a.text.items
    stands did.put tell (h.2, (h.0, h.1, h.3), h.4, h.5))
    answer

pub returns-in-Ok-clause-stopped : goal.returns-in-Ok-clause-stopped
returns-in-Ok-clause-stopped g c =
    let s = c.in-Ok.service in
    let bounds : s.bounds ≡ c.args.bounds = rw c.in-Ok.is at c.in_ok-service.ensures.bounds in
    let rules : s.rules ≡ c.args.rules = rw c.in-Ok.is at c.in_ok-service.ensures.rules in
    let stands = rw c.in-Ok.is at c.in_ok-service.ensures.stands in
    let did = c.import_input.ensures in
    let tell = rw (bounds, rules) at did.told in
    let stopped = rw (bounds, rules) at did.stopped in
    IfErr-weaker c.import_input.result _ _
    (λ e h x y.
    let before : World = record { input = g.R.Source.left c.args.input.now; output = x; records = g.K.Keeper.records c.args.keeper.now } in
    let after : World = record { input = g.R.Source.left c.import_input.new.input; output = y; records = g.K.Keeper.records c.import_input.new.keeper } in
    opened_stopped _ _ c.args.bounds c.args.rules task.Import before after (g.K.Keeper.records c.opened.new.keeper) s.events c.import_input.new.service.events _ _ (status_given_up e)
    stands did.put tell (import_part c.args.bounds c.args.rules before after s.events c.import_input.new.service.events e h))
    stopped

pub returns-in-Err-clause-answer : goal.returns-in-Err-clause-answer
returns-in-Err-clause-answer g c = λ x y.
    let before : World = record { input = g.R.Source.left c.args.input.now; output = x; records = g.K.Keeper.records c.args.keeper.now } in
    let after : World = record { input = g.R.Source.left c.args.input.now; output = y; records = g.K.Keeper.records c.opened.new.keeper } in
    opened_bad _ _ c.args.bounds c.args.rules _ before after c.args.feeds.now.items c.in-Err.answer.status c.in-Err.answer.text.items refl (rw c.in-Err.is at c.in_ok-service.ensures.bad)
