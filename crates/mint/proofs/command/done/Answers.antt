use Rattle.std.proofs.Common.{refl}
use Rattle.std.proofs.lemmas.Result.{IfOk-weaker, IfErr-weaker}
use Rattle.mint.specs.declared.words.Task.TheVariants as task
use Rattle.mint.specs.Doing.{status_given_up}
use Rattle.mint.specs.Run.{World}
use Rattle.mint.proofs.DoneLemmas.{done_as, stopped_as, check_done, sequence_done, question_done, serve_done}
use Rattle.mint.proofs.command.done.Goals as goal

pub returns-in-Check-clause-answer : goal.returns-in-Check-clause-answer
returns-in-Check-clause-answer g c =
    IfOk-weaker c.checked_input.result _ _
    (λ a h x y.
    let before : World = record { input = g.R.Source.left c.args.input.now; output = x; records = g.K.Keeper.records c.args.keeper.now } in
    let after : World = record { input = g.R.Source.left c.checked_input.new.input; output = y; records = g.K.Keeper.records c.args.keeper.now } in
    check_done _ _ c.args.command.bounds c.all-rules.result c.all-rules.ensures c.args.command.task before after c.args.feeds.now.items a.status a.text.items c.in-Check.is refl h)
    c.checked_input.ensures.answer

pub returns-in-Ask-clause-answer : goal.returns-in-Ask-clause-answer
returns-in-Ask-clause-answer g c =
    IfOk-weaker c.answered.result _ _
    (λ a h x y.
    let before : World = record { input = g.R.Source.left c.args.input.now; output = x; records = g.K.Keeper.records c.args.keeper.now } in
    let after : World = record { input = g.R.Source.left c.args.input.now; output = y; records = g.K.Keeper.records c.answered.new.keeper } in
    question_done _ _ c.args.command.bounds c.all-rules.result c.all-rules.ensures c.args.command.task c.in-Ask.question before after c.args.feeds.now.items a.status a.text.items
    c.in-Ask.is (h (g.R.Source.left c.args.input.now) x y))
    c.answered.ensures.answer

pub returns-in-Import-clause-answer : goal.returns-in-Import-clause-answer
returns-in-Import-clause-answer g c =
    IfOk-weaker c.imported.result _ _
    (λ a h x y.
    let before : World = record { input = g.R.Source.left c.args.input.now; output = x; records = g.K.Keeper.records c.args.keeper.now } in
    let after : World = record { input = g.R.Source.left c.imported.new.input; output = y; records = g.K.Keeper.records c.imported.new.keeper } in
    done_as _ _ c.args.command.bounds c.all-rules.result c.all-rules.ensures c.args.command.task task.Import before after _ _ a.status a.text.items c.in-Import.is (h x y))
    c.imported.ensures.answer

pub returns-in-Import-clause-stopped : goal.returns-in-Import-clause-stopped
returns-in-Import-clause-stopped g c =
    IfErr-weaker c.imported.result _ _
    (λ e h x y.
    let before : World = record { input = g.R.Source.left c.args.input.now; output = x; records = g.K.Keeper.records c.args.keeper.now } in
    let after : World = record { input = g.R.Source.left c.imported.new.input; output = y; records = g.K.Keeper.records c.imported.new.keeper } in
    stopped_as _ _ c.args.command.bounds c.all-rules.result c.all-rules.ensures c.args.command.task task.Import before after _ _ (status_given_up e) c.in-Import.is (h x y))
    c.imported.ensures.stopped

pub returns-in_ok-sequence_made-in-Niederreiter-clause-answer : goal.returns-in_ok-sequence_made-in-Niederreiter-clause-answer
returns-in_ok-sequence_made-in-Niederreiter-clause-answer g c = λ x y.
    let before : World = record { input = g.R.Source.left c.args.input.now; output = x; records = g.K.Keeper.records c.args.keeper.now } in
    let after : World = record { input = g.R.Source.left c.args.input.now; output = y; records = g.K.Keeper.records c.args.keeper.now } in
    let made = c.in_ok-sequence_made-in-Niederreiter in
    let sizes = c.in-Niederreiter in
    sequence_done _ _ c.args.command.bounds c.all-rules.result c.all-rules.ensures c.args.command.task sizes.q sizes.m sizes.s before after c.args.feeds.now.items made.field-0.status
    made.field-0.text.items sizes.is refl made.ensures.answer

pub returns-in-Generate-clause-answer : goal.returns-in-Generate-clause-answer
returns-in-Generate-clause-answer g c =
    let sizes = c.in-Generate in
    IfOk-weaker c.generated_all.result _ _
    (λ a h x y.
    let before : World = record { input = g.R.Source.left c.args.input.now; output = x; records = g.K.Keeper.records c.args.keeper.now } in
    let after : World = record { input = g.R.Source.left c.args.input.now; output = y; records = g.K.Keeper.records c.generated_all.new.keeper } in
    done_as _ _ c.args.command.bounds c.all-rules.result c.all-rules.ensures c.args.command.task (task.Generate sizes.seed sizes.count) before after _ _ a.status a.text.items sizes.is
    (h (g.R.Source.left c.args.input.now) x y))
    c.generated_all.ensures.answer

pub returns-in-Generate-clause-stopped : goal.returns-in-Generate-clause-stopped
returns-in-Generate-clause-stopped g c =
    let sizes = c.in-Generate in
    IfErr-weaker c.generated_all.result _ _
    (λ e h x y.
    let before : World = record { input = g.R.Source.left c.args.input.now; output = x; records = g.K.Keeper.records c.args.keeper.now } in
    let after : World = record { input = g.R.Source.left c.args.input.now; output = y; records = g.K.Keeper.records c.generated_all.new.keeper } in
    stopped_as _ _ c.args.command.bounds c.all-rules.result c.all-rules.ensures c.args.command.task (task.Generate sizes.seed sizes.count) before after _ _ (status_given_up e) sizes.is
    (h (g.R.Source.left c.args.input.now) x y))
    c.generated_all.ensures.stopped

pub returns-in_ok-usage-in-Serve-clause-answer : goal.returns-in_ok-usage-in-Serve-clause-answer
returns-in_ok-usage-in-Serve-clause-answer g c = λ x y.
    let before : World = record { input = g.R.Source.left c.args.input.now; output = x; records = g.K.Keeper.records c.args.keeper.now } in
    let after : World = record { input = g.R.Source.left c.args.input.now; output = y; records = g.K.Keeper.records c.args.keeper.now } in
    let made = c.in_ok-usage-in-Serve in
    let sizes = c.in-Serve in
    serve_done _ _ c.args.command.bounds c.all-rules.result c.all-rules.ensures c.args.command.task sizes.port sizes.workers sizes.connections before after c.args.feeds.now.items
    made.field-0.status made.field-0.text.items sizes.is refl made.ensures.0 made.ensures.1
