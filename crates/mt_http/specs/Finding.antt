-- Which address a target has, and what is asked by it.
use Rattle.std.specs.Prelude.{◌≡◌, ℕ, ◌+◌, ◌^◌, ◌<◌, ◌==◌, List, ◌++◌, take, drop, position, codes, decimal, IsAscii, Option, Some, None}
use Rattle.matchit.specs.Params.{walk}
use Rattle.matchit.specs.Router.{RouteOf}
use Rattle.matchit.specs.Seek.{first}
use Rattle.mt_http.specs.declared.routes.Address.{Address}
use Rattle.mt_http.specs.declared.routes.Address.TheVariants as address
use Rattle.mt_http.specs.declared.finding.Found.{Found}
use Rattle.mt_http.specs.declared.finding.Found.TheVariants as found
use Rattle.mt_http.specs.declared.finding.Asked.{Asked}
use Rattle.mt_http.specs.declared.finding.Asked.TheVariants as asked
use Rattle.mt_http.specs.declared.responses.Allow.TheVariants as allow
use Rattle.mt_http.specs.declared.wire.Verb.{Verb}
use Rattle.mt_http.specs.declared.wire.Verb.TheVariants as verb
use Rattle.mt_http.specs.Addresses.{routes_of}
use Rattle.mt_http.specs.Questions.{IsQuestionAt}

abbrev pub path_at : Option ℕ → List ℕ → List ℕ
path_at None target = target
path_at (Some at) target = take at target

abbrev pub query_at : Option ℕ → List ℕ → Option (List ℕ)
query_at None target = None
query_at (Some at) target = Some (drop (at + 1) target)

-- the place of the first question mark
abbrev pub mark : List ℕ → Option ℕ
mark target = position (λ b. b == 63) target

-- the target in front of it, and behind it
unfoldable pub path_of : List ℕ → List ℕ
path_of target = path_at (mark target) target

unfoldable pub query_of : List ℕ → Option (List ℕ)
query_of target = query_at (mark target) target

abbrev pub IsVersion : List ℕ → ℕ → Type 0
IsVersion text n = (n < 2 ^ 64) × (text ≡ codes "at_least=" ++ decimal n)

-- what the query asks of the version
abbrev pub IsAtLeast : Option (List ℕ) → Option ℕ → Type 0
IsAtLeast None None = Unit {0}
IsAtLeast (Some query) (Some n) = IsVersion query n
IsAtLeast None (Some n) = ⊥
IsAtLeast (Some query) None = ⊥

-- what a route asks, with these parts of the path and this query
abbrev pub IsFor : Address → List (List ℕ × List ℕ) → Option (List ℕ) → Found → Type 0
IsFor address.Import parts query found.Import = query ≡ None
IsFor a parts query found.Import = ⊥
IsFor a parts query (found.Get q n) = IsQuestionAt a parts q × IsAtLeast query n

-- the path is ASCII, this is its route among the addresses, and it asks this
pub record IsFound (target : List ℕ) (f : Found) : Type 0 where
  pub ascii : IsAscii (path_of target)
  pub route : RouteOf Address
  pub is_first : first routes_of (path_of target) ≡ Some route
  pub asks : IsFor route.value (walk route.pattern route.text (path_of target) route.names 0 0) (query_of target) f

abbrev pub Finds : List ℕ → Option Found → Type 0
Finds target None = (f : Found) → ¬ IsFound target f
Finds target (Some f) = IsFound target f

-- another method first, then no address, then the other method
abbrev pub asked_for : Verb → Option Found → Asked
asked_for verb.Other None = asked.BadMethod allow.Both
asked_for verb.Other (Some found.Import) = asked.BadMethod allow.Post
asked_for verb.Other (Some (found.Get q n)) = asked.BadMethod allow.Get
asked_for verb.Get None = asked.NoAddress
asked_for verb.Get (Some found.Import) = asked.BadMethod allow.Post
asked_for verb.Get (Some (found.Get q n)) = asked.Get q n
asked_for verb.Post None = asked.NoAddress
asked_for verb.Post (Some found.Import) = asked.Import
asked_for verb.Post (Some (found.Get q n)) = asked.BadMethod allow.Get
