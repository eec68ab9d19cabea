use Rattle.mt_http.proofs.WordLemmas.{found_by, missing_by}
use Rattle.mt_http.proofs.routes.next_number.Goals as goal

pub returns-in-Some-clause-found : goal.returns-in-Some-clause-found
returns-in-Some-clause-found c =
    let s = c.in-Some.ensures.steps in
    found_by c.args.parts.now c.next.new.self c.in-Some.part.now s.0 s.1 s.3 c.requires c.plain_number.result c.plain_number.ensures

pub returns-in-Some-clause-none : goal.returns-in-Some-clause-none
returns-in-Some-clause-none c =
    let s = c.in-Some.ensures.steps in
    missing_by c.args.parts.now c.next.new.self c.in-Some.part.now s.0 s.1 s.3 c.requires c.plain_number.result c.plain_number.ensures
