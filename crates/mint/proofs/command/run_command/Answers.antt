use Rattle.std.proofs.Common.{Err, inl, refl, ap, subst}
use Rattle.mint.specs.declared.causes.Cause.{Cause}
use Rattle.mint.specs.declared.status.Status.TheVariants.{Words}
use Rattle.mint.specs.Texts.{usage_text}
use Rattle.mint.specs.Run.{World}
use Rattle.mint.specs.Words.{IsTask}
use Rattle.mint.proofs.WordLemmas.{asked_has_text}
use Rattle.mint.proofs.RunLemmas.{run_done, run_stopped}
use Rattle.mint.proofs.command.run_command.Goals as goal

pub done-requires : goal.done-requires
done-requires g c = λ question e. let is = c.in-Some.ensures in asked_has_text is.rest question (subst (IsTask is.rest) e is.task)

pub returns-in_default-clause-done : goal.returns-in_default-clause-done
returns-in_default-clause-done g c = λ e. let written = c.write_answer.ensures.done e in (usage_text, inl (c.in_default.ensures, refl, refl, written.0, refl), written.1)

pub returns-in_default-clause-cut : goal.returns-in_default-clause-cut
returns-in_default-clause-cut g c = λ e. (Words, usage_text, inl (c.in_default.ensures, refl, refl, refl, refl), c.write_answer.ensures.cut e)

pub returns-in-Ok-clause-done : goal.returns-in-Ok-clause-done
returns-in-Ok-clause-done g c = λ e.
    let written = c.write_answer-in-Ok.ensures.done e in
    let x = g.W.Sink.written c.args.output.now in
    let y = g.W.Sink.written c.write_answer-in-Ok.new.output in
    let before : World = record { input = g.R.Source.left c.args.input.now; output = x; records = g.K.Keeper.records c.args.keeper.now } in
    let after : World = record { input = g.R.Source.left c.done.new.input; output = y; records = g.K.Keeper.records c.done.new.keeper } in (
      c.deref.result.now,
      run_done _ _ _ c.in-Some.command c.in-Some.ensures before after _ _ c.in-Ok.answer.status c.write_answer-in-Ok.result c.in-Ok.answer.text.items c.deref.result.now
          (c.in-Ok.ensures.answer x y) written.0 c.deref.ensures.value,
      written.1,
    )

pub returns-in-Ok-clause-cut : goal.returns-in-Ok-clause-cut
returns-in-Ok-clause-cut g c = λ e.
    let x = g.W.Sink.written c.args.output.now in
    let y = g.W.Sink.written c.write_answer-in-Ok.new.output in
    let before : World = record { input = g.R.Source.left c.args.input.now; output = x; records = g.K.Keeper.records c.args.keeper.now } in
    let after : World = record { input = g.R.Source.left c.done.new.input; output = y; records = g.K.Keeper.records c.done.new.keeper } in (
      c.in-Ok.answer.status,
      c.deref.result.now,
      run_done _ _ _ c.in-Some.command c.in-Some.ensures before after _ _ c.in-Ok.answer.status c.in-Ok.answer.status c.in-Ok.answer.text.items c.deref.result.now
          (c.in-Ok.ensures.answer x y) refl c.deref.ensures.value,
      c.write_answer-in-Ok.ensures.cut e,
    )

pub returns-in-Err-clause-given_up : goal.returns-in-Err-clause-given_up
returns-in-Err-clause-given_up g c = λ e.
    let x = g.W.Sink.written c.args.output.now in
    let before : World = record { input = g.R.Source.left c.args.input.now; output = x; records = g.K.Keeper.records c.args.keeper.now } in
    let after : World = record { input = g.R.Source.left c.done.new.input; output = x; records = g.K.Keeper.records c.done.new.keeper } in
    run_stopped _ _ _ c.in-Some.command c.in-Some.ensures before after _ _ c.in-Err.cause c.status.result
    (λ k. c.in-Err.ensures.reads (ap (λ (z : Cause). Err z) k)) (λ k. c.in-Err.ensures.opens (ap (λ (z : Cause). Err z) k))
    (c.in-Err.ensures.stopped x x) c.status.ensures
