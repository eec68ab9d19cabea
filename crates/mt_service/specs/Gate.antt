-- The claims that texts make within bounds, and why a text makes none.
use Rattle.std.specs.Prelude.{◌≡◌, ℕ, ◌-◌, ◌^◌, ◌<◌, ◌≤◌, min, List}
use Rattle.mt_system.specs.Statements.{Statement}
use Rattle.mt_strength.specs.Checks.{choices_by}
use Rattle.mt_import.specs.declared.headers.Header.{Header}
use Rattle.mt_import.specs.Texts.{IsImport, IsRefusal}
use Rattle.mt_import.specs.Canonical.{IsTextOf}
use Rattle.mt_cells.specs.declared.bounds.Bounds.{Bounds}
use Rattle.mt_cells.specs.declared.asks.Part.{Part}
use Rattle.mt_cells.specs.declared.asks.Part.TheVariants.{M, S}
use Rattle.mt_service.specs.declared.gate.TheConstants.{MOST_CHOICES}
use Rattle.mt_service.specs.declared.outcomes.Outcome.{Outcome}
use Rattle.mt_service.specs.declared.outcomes.Outcome.TheVariants as outcome

-- the first of the header's m and s that is over its limit, at most 255 being shown
abbrev pub IsSizeOver : Bounds → Header → Part → ℕ → ℕ → Type 0
IsSizeOver b h M number limit = (b.m_max < h.m) × (number ≡ min h.m 255) × (limit ≡ b.m_max)
IsSizeOver b h S number limit = (h.m ≤ b.m_max) × (b.s_max < h.s) × (number ≡ min h.s 255) × (limit ≡ b.s_max)
IsSizeOver b h name number limit = ⊥

-- the text is an import text whose header has this size over its limit
pub record IsOverLimit (b : Bounds) (text : List ℕ) (name : Part) (number limit : ℕ) : Type 0 where
  pub header : Header
  pub note : List ℕ
  pub digits : List ℕ
  pub import : IsImport text header note digits
  pub over : IsSizeOver b header name number limit

-- the text makes this claim, whose system is within the bounds
pub record IsTextWithin (b : Bounds) (text : List ℕ) (c : Statement) : Type 0 where
  pub text_of : IsTextOf text c
  pub columns : c.system.columns ≤ b.m_max
  pub coordinates : c.system.coordinates ≤ b.s_max

-- how many choices a check of the claim may try
abbrev pub choices : Statement → ℕ
choices c = choices_by c.form c.system c.k

-- and a check of the claim tries at most MOST_CHOICES choices
abbrev pub Reads : Bounds → List ℕ → Statement → Type 0
Reads b text c = IsTextWithin b text c × (choices c ≤ MOST_CHOICES)

-- why no claim is taken of an import text: a size is over its limit, or the choices are too many
abbrev pub IsTooLarge : Bounds → List ℕ → Outcome → Type 0
IsTooLarge b text (outcome.Range name number limit) = IsOverLimit b text name number limit
IsTooLarge b text (outcome.TooManyChoices count) = (c : Statement) × IsTextWithin b text c × (MOST_CHOICES < choices c) × (count ≡ min (choices c) (2 ^ 64 - 1))
IsTooLarge b text o = ⊥

-- why no claim is read: the text is no import text, or it is too large
abbrev pub IsUnread : Bounds → List ℕ → Outcome → Type 0
IsUnread b text (outcome.Form refused) = IsRefusal text refused
IsUnread b text o = IsTooLarge b text o
