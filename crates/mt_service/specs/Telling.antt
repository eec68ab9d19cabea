-- What feeds are told of a list of events that grew.
use Rattle.std.specs.Prelude.{◌≡◌, ℕ, List, [], ◌∷◌, ◌++◌, length, map, All, Option}
use Rattle.std.specs.List.{AllZip}
use Rattle.mt_cells.specs.declared.bounds.Bounds.{Bounds}
use Rattle.mt_cells.specs.declared.rules.RuleSet.{RuleSet}
use Rattle.mt_feed.specs.declared.Change.{Change}
use Rattle.mt_feed.specs.Lines.{change_lines}
use Rattle.mt_feed.specs.Faring.{Fares}
use Rattle.mt_derive.specs.declared.events.Event.{Event}
use Rattle.mt_derive.specs.Events.{entries_of}
use Rattle.mt_derive.specs.Trees.{IsValue}
use Rattle.mt_derive.specs.Values.{AreChanged}

module _ (b : Bounds) (rules : RuleSet) where
  -- each cell whose value over M is another than over E, in the order of cells, with the new value and the number of events
  pub record AreChanges (E M : List Event) (changes : List Change) : Type 0 where
    pub cells : AreChanged b rules E M (map (λ c. c.cell) changes)
    pub each : All (λ c. (c.version ≡ length M) × IsValue b rules (entries_of M) c.cell c.k) changes

  -- the lines of the changes that the events F make one after the other, from the list E on
  abbrev pub AreLines : List Event → List Event → List ℕ → Type 0
  AreLines E [] lines = lines ≡ []
  AreLines E (e ∷ F) lines =
      (changes : List Change) × (rest : List ℕ) × AreChanges E (E ++ e ∷ []) changes × AreLines (E ++ e ∷ []) F rest × (lines ≡ change_lines changes ++ rest)

  -- the list E grew to M, and each feed fared as one that is told the lines of all changes; where nothing was added they stay as they are
  pub record AreTold {F : Type 0} (told : F → Option (List ℕ)) (faults : F → ℕ) (E M : List Event) (old new : List F) : Type 0 where
    pub events : List Event
    pub grown : M ≡ E ++ events
    pub fare : AllZip (λ f g. (lines : List ℕ) × AreLines E events lines × Fares told faults lines f g) old new
    pub unchanged : events ≡ [] → new ≡ old
