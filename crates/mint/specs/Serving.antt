-- What serving does, and how it ends.
use Rattle.std.specs.Prelude.{◌≡◌, ℕ, ◌⊎◌, List, Option}
use Rattle.mt_cells.specs.declared.bounds.Bounds.{Bounds}
use Rattle.mt_service.specs.declared.opening.OpenRefused.{OpenRefused}
use Rattle.mt_service.specs.Texts.{open_text}
use Rattle.mt_server.specs.declared.workers.ServeEnd.{ServeEnd}
use Rattle.mt_server.specs.declared.workers.ServeEnd.TheVariants as serve
use Rattle.mint.specs.declared.status.Status.{Status}
use Rattle.mint.specs.declared.status.Status.TheVariants.{Ok, Words, BadStore, Device}
use Rattle.mint.specs.declared.words.Task.TheVariants as task
use Rattle.mint.specs.Store.{IsBadStore}
use Rattle.mint.specs.Texts.{usage_text}
use Rattle.mint.specs.Words.{IsCommand}

-- the words ask to serve with these bounds, by so many workers, each for so many connections
abbrev pub AskToServe : List (List ℕ) → Bounds → ℕ → ℕ → Type 0
AskToServe words b workers connections = (port : ℕ) × IsCommand words (record { bounds = b; task = task.Serve port workers connections })

-- the words are in no form of `serve`
abbrev pub AskForNoServing : List (List ℕ) → Type 0
AskForNoServing words = (b : Bounds) (workers connections : ℕ) → ¬ AskToServe words b workers connections

-- why no worker begins, as its status and its text: the words are in no form of `serve`, or the records of the store are refused
abbrev pub IsTurnedAway : List (List ℕ) → Option (List (List ℕ)) → Option (List (List ℕ)) → Status → List ℕ → Type 0
IsTurnedAway words before after status output =
    (AskForNoServing words × (after ≡ before) × (status ≡ Words) × (output ≡ usage_text))
    ⊎ ((b : Bounds) × (workers connections : ℕ) × AskToServe words b workers connections
    × (r : OpenRefused) × IsBadStore b before after r × (status ≡ BadStore) × (output ≡ open_text r))

-- workers began
abbrev pub HasBegun : Status → Type 0
HasBegun Ok = Unit {0}
HasBegun Device = Unit {0}
HasBegun status = ⊥

abbrev pub status_of_serving : ServeEnd → Status
status_of_serving serve.Served = Ok
status_of_serving (serve.AcceptFault n) = Device
