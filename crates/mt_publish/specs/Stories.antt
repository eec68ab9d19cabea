-- Internal: what a seat at the shared table knows of a value, its base and then its entries, in one list.
use Rattle.std.specs.Prelude.{List, [], ◌∷◌, map}
use Rattle.mt_publish.specs.declared.role.Item.{Item}
use Rattle.mt_publish.specs.declared.role.Item.TheVariants.{Base, Entry}

module _ {B E : Type 0} where
  -- the base, and then the entries
  abbrev pub story : B → List E → List (Item B E)
  story b xs = Base b ∷ map Entry xs

  -- the entries of a story
  abbrev pub story_entries : List (Item B E) → List E
  story_entries [] = []
  story_entries (Base b ∷ r) = story_entries r
  story_entries (Entry e ∷ r) = e ∷ story_entries r
