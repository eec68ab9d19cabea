use Rattle.mt_server.specs.Turns.{reply_from, response_from}
use Rattle.mt_server.proofs.RequestLemmas.{get_answered}
use Rattle.mt_server.proofs.requests.answer_asked.Goals as goal

pub returns-in-Get-clause-answered : goal.returns-in-Get-clause-answered
returns-in-Get-clause-answered g c =
    get_answered c.args.viewer.now c.args.asked c.in-Get.question c.in-Get.at_least c.or_zero.result (reply_from c.by_question-answer.result) c.args.body.now
    (response_from c.drafted.result) c.by_question-answer.new.viewer c.in-Get.is c.or_zero.ensures c.by_question-answer.ensures.answered c.drafted.ensures
