-- The sizes in the parts of a path, one after another.
use Rattle.std.specs.Prelude.{◌≡◌, ℕ, []}
use Rattle.mt_cells.specs.declared.asks.Kind.{Kind}
use Rattle.mt_cells.specs.declared.asks.Kind.TheVariants as kind
use Rattle.mt_cells.specs.declared.asks.Ask.{Ask}
use Rattle.mt_http.specs.declared.routes.Address.{Address}
use Rattle.mt_http.specs.declared.routes.Address.TheVariants as address
use Rattle.mt_cells.specs.declared.asks.Question.{Question}
use Rattle.mt_cells.specs.declared.asks.Question.TheVariants as question
use Rattle.mt_http.specs.Addresses.{Pairs, IsNumberFirst}

-- a kind with depths has one as the last part, another kind has none and says 0
abbrev pub IsDepthAt : Kind → Pairs → ℕ → Type 0
IsDepthAt kind.Ooa parts depth = IsNumberFirst parts depth []
IsDepthAt kind.Net parts depth = (parts ≡ []) × (depth ≡ 0)
IsDepthAt kind.Oa parts depth = (parts ≡ []) × (depth ≡ 0)
IsDepthAt kind.Seq parts depth = (parts ≡ []) × (depth ≡ 0)

-- q, m, s, and the depth
pub record IsAskAt (k : Kind) (parts : Pairs) (a : Ask) : Type 0 where
  pub kind_is : a.kind ≡ k
  pub behind_q : Pairs
  pub behind_m : Pairs
  pub behind_s : Pairs
  pub q : IsNumberFirst parts a.q behind_q
  pub m : IsNumberFirst behind_q a.m behind_m
  pub s : IsNumberFirst behind_m a.s behind_s
  pub depth : IsDepthAt k behind_s a.depth

pub record AreTwoAt (parts : Pairs) (a b : ℕ) : Type 0 where
  pub behind : Pairs
  pub one : IsNumberFirst parts a behind
  pub two : IsNumberFirst behind b []

pub record AreThreeAt (parts : Pairs) (a b c : ℕ) : Type 0 where
  pub behind_one : Pairs
  pub behind_two : Pairs
  pub one : IsNumberFirst parts a behind_one
  pub two : IsNumberFirst behind_one b behind_two
  pub three : IsNumberFirst behind_two c []

-- the parts of a path with this address ask this
abbrev pub IsQuestionAt : Address → Pairs → Question → Type 0
IsQuestionAt (address.Value k) parts (question.Value a) = IsAskAt k parts a
IsQuestionAt (address.Tree k) parts (question.Tree a) = IsAskAt k parts a
IsQuestionAt (address.Matrix k) parts (question.Matrix a) = IsAskAt k parts a
IsQuestionAt address.Table parts (question.Table q m) = AreTwoAt parts q m
IsQuestionAt address.LeastM parts (question.LeastM q s k) = AreThreeAt parts q s k
IsQuestionAt address.Version parts question.Version = parts ≡ []
IsQuestionAt address.Export parts question.Export = parts ≡ []
IsQuestionAt _ parts _ = ⊥
