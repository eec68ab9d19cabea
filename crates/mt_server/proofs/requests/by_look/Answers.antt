use Rattle.mt_answer.specs.Answers.{shown}
use Rattle.mt_server.proofs.RequestLemmas.{looked_by}
use Rattle.mt_server.proofs.requests.by_look.Goals as goal

pub returns-clause-answered : goal.returns-clause-answered
returns-clause-answered g c =
    let looked = c.in-Ok.looked in
    looked_by c.compare.result c.args.viewer.now c.learn.new.self (g.O.Office.publication c.args.office.now) c.args.question.now c.args.at_least
    looked.front.list (shown looked.answer) c.len-compared.result c.shown-most.result c.requires c.in-Ok.ensures.answer.1 c.len-compared.ensures c.shown-most.ensures
    c.learn.ensures.publication c.learn.ensures.seen c.learn.ensures.learnt c.learn.ensures.missed c.compare.ensures
