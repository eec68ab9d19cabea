-- Claims that follow from the words of SplitMix64.
use Rattle.std.specs.Prelude.{◌≡◌, ℕ, zero, suc, ◌+◌, ◌*◌, ◌%◌, ◌<◌, min, List, [], ◌∷◌, ◌++◌, length, slice_index, codes, decimal}
use Rattle.rand_xoshiro.specs.SplitMix64.{mix_u64, next_state}
use Rattle.mt_linear.specs.Field.{number_of}
use Rattle.mt_system.specs.Rows.{Matrices}
use Rattle.mt_system.specs.Statements.{Statement}
use Rattle.mt_system.specs.declared.claims.Form.TheVariants.{Ooa}
use Rattle.mt_strength.specs.Verdicts.{IsGreatestStrength}
use Rattle.mt_cells.specs.declared.bounds.Bounds.{Bounds}
use Rattle.mt_cells.specs.Cells.{index_of}
use Rattle.mt_gen.specs.declared.systems.TheConstants.{MOST_DRAWN_COLUMNS, MOST_DRAWN_COORDINATES}

-- SplitMix64's state x after n words
unfoldable pub state_after : ℕ → ℕ → ℕ
state_after x zero = x
state_after x (suc n) = next_state (state_after x n)

-- the word that it gives behind n others
unfoldable pub word_at : ℕ → ℕ → ℕ
word_at x n = (mix_u64 (state_after x n)).0

-- the first words give a's sizes, and each of the others a digit, by coordinate, row and column
pub record IsDrawn (b : Bounds) (x : ℕ) (a : Matrices) : Type 0 where
  pub order : index_of a.order ≡ word_at x 0 % 7
  pub columns : a.columns ≡ 1 + word_at x 1 % min b.m_max MOST_DRAWN_COLUMNS
  pub coordinates : a.coordinates ≡ 1 + word_at x 2 % min b.s_max MOST_DRAWN_COORDINATES
  pub depth : a.depth ≡ 1 + word_at x 3 % a.columns
  pub size : length a.digits ≡ a.coordinates * a.depth * a.columns
  pub digits : (n : ℕ) → n < length a.digits → slice_index a.digits n ≡ word_at x (4 + n) % number_of a.order

-- how many words a system takes
abbrev pub words_of : Matrices → ℕ
words_of a = 4 + length a.digits

-- `g-SEED-NUMBER`
abbrev pub name_of : ℕ → ℕ → List ℕ
name_of seed number = codes "g-" ++ decimal seed ++ 45 ∷ decimal number

-- an array that is drawn from the state x on, with its greatest strength
pub record IsGenerated (seed : ℕ) (b : Bounds) (number x : ℕ) (c : Statement) : Type 0 where
  pub form : c.form ≡ Ooa
  pub name : c.name ≡ name_of seed number
  pub note : c.note ≡ []
  pub system : IsDrawn b x c.system
  pub strength : IsGreatestStrength c.system c.k

-- one after the other, from this number and state on
abbrev pub AreGenerated : ℕ → Bounds → ℕ → ℕ → List Statement → Type 0
AreGenerated seed b number x [] = Unit {0}
AreGenerated seed b number x (c ∷ cs) =
    IsGenerated seed b number x c × AreGenerated seed b (number + 1) (state_after x (words_of c.system)) cs
