-- What the parts of the reader take off a header.
use Rattle.std.specs.Prelude.{◌≡◌, ℕ, ◌<◌, ◌≤◌, List, length, slice_index, All}
use Rattle.mt_system.specs.declared.claims.Form.{Form}
use Rattle.mt_system.specs.declared.claims.Form.TheVariants.{Ooa, Net, Seq}
use Rattle.mt_import.specs.declared.headers.Header.{Header}
use Rattle.mt_import.specs.Lines.{digit_zero}
use Rattle.mt_import.specs.Headers.{numbers_by, IsHeader}

-- how many numbers a header of this form has
abbrev pub count_of : Form → ℕ
count_of Ooa = 5
count_of Net = 4
count_of Seq = 4

-- so many numbers below 1000
pub record AreNumbers (count : ℕ) (ns : List ℕ) : Type 0 where
  pub size : length ns ≡ count
  pub small : All (λ n. n < 1000) ns

-- a header of this form, these numbers and this name
pub record IsHeaderOf (form : Form) (ns name : List ℕ) (h : Header) : Type 0 where
  pub header : IsHeader h
  pub form_is : h.form ≡ form
  pub numbers : numbers_by form h ≡ ns
  pub name_is : h.name ≡ name

-- one to three bytes, and the first of them a zero only where it is alone
pub record IsPlain (word : List ℕ) : Type 0 where
  pub some : 0 < length word
  pub few : length word ≤ 3
  pub zero : slice_index word 0 ≡ digit_zero → length word ≡ 1
