-- Texts of at most so many bytes, kept in place with zeros behind them.
use Rattle.std.specs.Prelude.{◌≡◌, ℕ, ◌-◌, List, ◌++◌, length, take, replicate}

-- a text with zeros behind it, as many bytes as a text may have
abbrev pub padded_text : ℕ → List ℕ → List ℕ
padded_text most text = text ++ replicate (most - length text) 0

-- the first bytes are a text of this kind and length, and the others are zeros
pub record IsKept (P : List ℕ → Type 0) (most : ℕ) (bytes : List ℕ) (len : ℕ) : Type 0 where
  pub text : P (take len bytes)
  pub size : length (take len bytes) ≡ len
  pub padded : padded_text most (take len bytes) ≡ bytes
