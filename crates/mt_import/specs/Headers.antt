-- Headers: what the first line of an import text says.
use Rattle.std.specs.Prelude.{◌≡◌, ℕ, ◌-◌, ◌≤◌, List, [], ◌∷◌, ◌++◌, map, decimal}
use Rattle.mt_linear.specs.declared.order.Order.{Order}
use Rattle.mt_linear.specs.Field.{number_of}
use Rattle.mt_system.specs.declared.claims.Form.{Form}
use Rattle.mt_system.specs.declared.claims.Form.TheVariants.{Ooa, Net, Seq}
use Rattle.mt_system.specs.Forms.{form_word}
use Rattle.mt_system.specs.Claims.{IsName}
use Rattle.mt_import.specs.declared.headers.Header.{Header}
use Rattle.mt_import.specs.Lines.{words_of}

-- for an array q, m, s, depth and k, else q, m, s and t, which is m - k
abbrev pub numbers_by : Form → Header → List ℕ
numbers_by Ooa h = h.q ∷ h.m ∷ h.s ∷ h.depth ∷ h.k ∷ []
numbers_by Net h = h.q ∷ h.m ∷ h.s ∷ (h.m - h.k) ∷ []
numbers_by Seq h = h.q ∷ h.m ∷ h.s ∷ (h.m - h.k) ∷ []

-- `ooa q m s depth k name`, `net q m s t name` or `seq q m s t name`, the numbers in decimal
abbrev pub header_words : Header → List (List ℕ)
header_words h = form_word h.form ∷ map decimal (numbers_by h.form h) ++ h.name ∷ []

-- q is an order, depth and k are at most m, and no number has more than three digits
pub record IsHeader (h : Header) : Type 0 where
  pub order : Order
  pub order_is : h.q ≡ number_of order
  pub columns_from : 1 ≤ h.m
  pub columns_to : h.m ≤ 999
  pub coordinates_from : 1 ≤ h.s
  pub coordinates_to : h.s ≤ 999
  pub depth_from : 1 ≤ h.depth
  pub depth_to : h.depth ≤ h.m
  pub strength : h.k ≤ h.m
  pub net : h.form ≡ Net → h.depth ≡ h.m
  pub sequence : h.form ≡ Seq → h.depth ≡ h.m
  pub name : IsName h.name

-- the words of the line are those of this header
pub record IsHeaderLine (line : List ℕ) (h : Header) : Type 0 where
  pub header : IsHeader h
  pub words : words_of line ≡ header_words h
