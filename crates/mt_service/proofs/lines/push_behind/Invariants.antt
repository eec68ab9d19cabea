use Rattle.std.proofs.Common.{◌≡◌, ◌∷◌, ◌++◌, take, decimal, flat_map}
use Rattle.mt_service.proofs.lines.push_behind.Given as goal

abbrev pub invariant-loop-number : goal.invariant-loop-number
invariant-loop-number l = l.text.items ≡ l.initial.text.items ++ flat_map (λ n. 44 ∷ decimal n) (take l.number-index l.numbers)
