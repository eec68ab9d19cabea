use Rattle.mt_server.specs.Turns.{reply_from}
use Rattle.mt_server.proofs.RequestLemmas.{question_viewed, question_looked}
use Rattle.mt_server.proofs.requests.by_question.Goals as goal

pub returns-in-Some-clause-answered : goal.returns-in-Some-clause-answered
returns-in-Some-clause-answered g c =
    question_viewed c.in-Some.answer c.args.viewer.now c.by_view.new.viewer c.args.question.now c.args.at_least c.in-Some.ensures.view c.in-Some.ensures.answer

pub returns-in-None-clause-answered : goal.returns-in-None-clause-answered
returns-in-None-clause-answered g c =
    question_looked c.args.viewer.now c.by_view.new.viewer c.by_look.new.viewer c.args.question.now c.args.at_least (reply_from c.by_look.result)
    c.in-None.ensures.none c.by_look.ensures.answered
