-- The words of commands.
use Rattle.std.specs.Prelude.{◌≡◌, ℕ, ◌^◌, ◌<◌, ◌≤◌, List, [], ◌∷◌, ◌++◌, codes, decimal}
use Rattle.mt_cells.specs.declared.bounds.Bounds.{Bounds}
use Rattle.mt_cells.specs.declared.asks.Kind.{Kind}
use Rattle.mt_cells.specs.declared.asks.Kind.TheVariants.{Ooa}
use Rattle.mt_cells.specs.declared.asks.Ask.{Ask}
use Rattle.mt_cells.specs.declared.asks.Question.TheVariants.{Value, Tree, Matrix, Table, Export}
use Rattle.mt_cells.specs.Texts.{kind_text}
use Rattle.mint.specs.declared.words.TheConstants.{MOST_GENERATED, MOST_WORKERS, MOST_CONNECTIONS}
use Rattle.mint.specs.declared.words.Task.{Task}
use Rattle.mint.specs.declared.words.Task.TheVariants as task
use Rattle.mint.specs.declared.words.Command.{Command}

-- `M,S`
abbrev pub bounds_word : Bounds → List ℕ
bounds_word b = decimal b.m_max ++ 44 ∷ decimal b.s_max

-- the depth is said for kind ooa alone
abbrev pub depth_words : Kind → ℕ → List (List ℕ)
depth_words Ooa depth = decimal depth ∷ []
depth_words kind depth = []

-- these words are the sizes of a question of this kind
pub record IsSizes (kind : Kind) (words : List (List ℕ)) (a : Ask) : Type 0 where
  pub kind_is : a.kind ≡ kind
  pub q : a.q < 2 ^ 64
  pub m : a.m < 2 ^ 64
  pub s : a.s < 2 ^ 64
  pub depth : a.depth < 2 ^ 64
  pub words_are : words ≡ decimal a.q ∷ decimal a.m ∷ decimal a.s ∷ depth_words kind a.depth

-- these words ask for a question's kind and sizes
pub record IsAskFor (words : List (List ℕ)) (a : Ask) : Type 0 where
  pub sizes : List (List ℕ)
  pub words_are : words ≡ kind_text a.kind ∷ sizes
  pub is_sizes : IsSizes a.kind sizes a

-- these words are two numbers
abbrev pub AreTwo : List (List ℕ) → ℕ → ℕ → Type 0
AreTwo words q m = (q < 2 ^ 64) × (m < 2 ^ 64) × (words ≡ decimal q ∷ decimal m ∷ [])

-- these words are three numbers
abbrev pub AreThree : List (List ℕ) → ℕ → ℕ → ℕ → Type 0
AreThree words q m s = (q < 2 ^ 64) × (m < 2 ^ 64) × (s < 2 ^ 64) × (words ≡ decimal q ∷ decimal m ∷ decimal s ∷ [])

-- these words are a seed and how many claims
abbrev pub AreSeedAndCount : List (List ℕ) → ℕ → ℕ → Type 0
AreSeedAndCount words seed count = (seed < 2 ^ 64) × (1 ≤ count) × (count ≤ MOST_GENERATED) × (words ≡ decimal seed ∷ decimal count ∷ [])

-- these words are a port, how many workers, and how many connections for each
abbrev pub ArePortAndCounts : List (List ℕ) → ℕ → ℕ → ℕ → Type 0
ArePortAndCounts words port workers connections =
    (1 ≤ port) × (port < 2 ^ 16) × (1 ≤ workers) × (workers ≤ MOST_WORKERS) × (1 ≤ connections) × (connections ≤ MOST_CONNECTIONS)
    × (words ≡ decimal port ∷ decimal workers ∷ decimal connections ∷ [])

-- the first word is this one, and P holds of those behind it
abbrev pub IsBehind : List ℕ → (List (List ℕ) → Type 0) → List (List ℕ) → Type 0
IsBehind word P words = (rest : List (List ℕ)) × (words ≡ word ∷ rest) × P rest

-- the words behind the bounds ask for this task
abbrev pub IsTask : List (List ℕ) → Task → Type 0
IsTask words task.Check = words ≡ codes "check" ∷ []
IsTask words task.Import = words ≡ codes "import" ∷ []
IsTask words (task.Ask (Value a)) = IsBehind (codes "value") (λ rest. IsAskFor rest a) words
IsTask words (task.Ask (Tree a)) = IsBehind (codes "tree") (λ rest. IsAskFor rest a) words
IsTask words (task.Ask (Matrix a)) = IsBehind (codes "matrix") (λ rest. IsAskFor rest a) words
IsTask words (task.Ask (Table q m)) = IsBehind (codes "table") (λ rest. AreTwo rest q m) words
IsTask words (task.Ask Export) = words ≡ codes "export" ∷ []
IsTask words (task.Ask question) = ⊥
IsTask words (task.Niederreiter q m s) = IsBehind (codes "niederreiter") (λ rest. AreThree rest q m s) words
IsTask words (task.Generate seed count) = IsBehind (codes "generate") (λ rest. AreSeedAndCount rest seed count) words
IsTask words (task.Serve port workers connections) = IsBehind (codes "serve") (λ rest. ArePortAndCounts rest port workers connections) words

-- the words of a command: its bounds, and then its task
pub record IsCommand (words : List (List ℕ)) (c : Command) : Type 0 where
  pub rest : List (List ℕ)
  pub words_are : words ≡ bounds_word c.bounds ∷ rest
  pub task : IsTask rest c.task
