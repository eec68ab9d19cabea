-- The law of answers.
use Rattle.std.specs.Prelude.{◌≡◌, List}
use Rattle.mt_derive.specs.declared.events.Event.{Event}
use Rattle.mt_cells.specs.declared.bounds.Bounds.{Bounds}
use Rattle.mt_cells.specs.declared.rules.RuleSet.{RuleSet}
use Rattle.mt_cells.specs.declared.asks.Ask.{Ask}
use Rattle.mt_cells.specs.declared.asks.Question.TheVariants.{Value}
use Rattle.mt_answer.specs.declared.facts.Facts.{Facts}
use Rattle.mt_answer.specs.Facts.{IsFound}

-- one answer for the value of a cell
abbrev pub ValuesAreUnique : Bounds → RuleSet → List Event → Type 0
ValuesAreUnique b rules E = (a : Ask) (f g : Facts) → IsFound b rules E (Value a) f → IsFound b rules E (Value a) g → f ≡ g
