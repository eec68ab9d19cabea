use Rattle.std.proofs.Common.{arith}
use Rattle.mint.proofs.serve_tests.as_many.Goals.{in-Some+else-serving-len, in_default}
use Rattle.mint.proofs.serve_tests.as_many.Goals as goal

pub returns : goal.returns
returns g c = λ b workers connections ask. elim c.match-read_serving.branch [
  | in-Some+else-serving-len w ↦
      (let same = w.in-Some.ensures.3 b workers connections ask in omega (arith, same, w.if-serving-len.false, w.len.ensures))
  | in_default w ↦ absurd (w.in_default.ensures b workers connections ask)
]
