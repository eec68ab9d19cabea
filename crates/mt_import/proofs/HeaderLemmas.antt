-- The words of a header, taken off a line one after another.
use Rattle.std.proofs.Common.{◌≡◌, ℕ, ◌-◌, ◌<◌, ◌≤◌, List, [], ◌∷◌, ◌++◌, length, map, get_or, All, decimal, refl, sym, ap, ap₂, ◌∙◌, arith}
use Rattle.std.specs.Prelude.{Option, None, Some, MatchOption}
use Rattle.std.proofs.lemmas.Fmt.{decimal_injective}
use Rattle.std.proofs.lemmas.List.Elements.{All-head, All-tail, All-from_recursion}
use Rattle.mt_linear.specs.declared.order.Order.{Order}
use Rattle.mt_linear.specs.declared.order.Order.TheVariants.{Q2, Q3, Q4, Q5, Q7, Q8, Q9}
use Rattle.mt_linear.specs.Field.{number_of}
use Rattle.mt_system.specs.declared.claims.Form.{Form}
use Rattle.mt_system.specs.declared.claims.Form.TheVariants.{Ooa, Net, Seq}
use Rattle.mt_import.specs.declared.headers.Header.{Header}
use Rattle.mt_import.specs.Lines.{words_of}
use Rattle.mt_system.specs.Forms.{form_word}
use Rattle.mt_import.specs.Headers.{numbers_by, header_words, IsHeader, IsHeaderLine}
use Rattle.mt_import.specs.HeaderParts.{count_of, AreNumbers, IsHeaderOf}

-- behind the first few of more numbers stands another
pub next_number : (xs ns : List ℕ) (rest more : List (List ℕ)) → length xs < length ns → All (λ n. n < 1000) ns → map decimal xs ++ rest ≡ map decimal ns ++ more
    → (n : ℕ) × (n < 1000) × ((words : List (List ℕ)) × (rest ≡ decimal n ∷ words))
next_number xs [] rest more l small e = absurd (omega arith)
next_number [] (n ∷ ns) rest more l small e = (n, All-head (λ n. n < 1000) n ns small, (map decimal ns ++ more, e))
next_number (x ∷ xs) (n ∷ ns) rest more l small e = next_number xs ns rest more (omega arith) (All-tail (λ n. n < 1000) n ns small) (cc)

-- the same number of numbers, and the same words behind them
same_numbers : (xs ns : List ℕ) (rest more : List (List ℕ)) → length xs ≡ length ns → All (λ n. n < 1000) xs → All (λ n. n < 1000) ns → map decimal xs ++ rest ≡ map decimal ns ++ more
    → (xs ≡ ns) × (rest ≡ more)
same_numbers [] [] rest more l low high e = (refl, e)
same_numbers [] (n ∷ ns) rest more l low high e = absurd (omega arith)
same_numbers (x ∷ xs) [] rest more l low high e = absurd (omega arith)
same_numbers (x ∷ xs) (n ∷ ns) rest more l low high e =
    let P : ℕ → Type 0 = λ n. n < 1000 in
    let first : decimal x ≡ decimal n = cc in
    let x_small : x < 1000 = All-head P x xs low in
    let n_small : n < 1000 = All-head P n ns high in
    let both : (xs ≡ ns) × (rest ≡ more) = same_numbers xs ns rest more (omega arith) (All-tail P x xs low) (All-tail P n ns high) (cc) in
    (ap₂ (λ m (ms : List ℕ). m ∷ ms) (decimal_injective x n (omega arith) (omega arith) first) both.0, both.1)

same_form : (f g : Form) → form_word f ≡ form_word g → f ≡ g
same_form Ooa Ooa e = refl
same_form Net Net e = refl
same_form Seq Seq e = refl
same_form Ooa Net e = absurd (let n = ap (λ (xs : List ℕ). get_or xs 0 0) e in omega arith)
same_form Ooa Seq e = absurd (let n = ap (λ (xs : List ℕ). get_or xs 0 0) e in omega arith)
same_form Net Ooa e = absurd (let n = ap (λ (xs : List ℕ). get_or xs 0 0) e in omega arith)
same_form Net Seq e = absurd (let n = ap (λ (xs : List ℕ). get_or xs 0 0) e in omega arith)
same_form Seq Ooa e = absurd (let n = ap (λ (xs : List ℕ). get_or xs 0 0) e in omega arith)
same_form Seq Net e = absurd (let n = ap (λ (xs : List ℕ). get_or xs 0 0) e in omega arith)

pub number_of-le : (o : Order) → number_of o ≤ 9
number_of-le Q2 = omega arith
number_of-le Q3 = omega arith
number_of-le Q4 = omega arith
number_of-le Q5 = omega arith
number_of-le Q7 = omega arith
number_of-le Q8 = omega arith
number_of-le Q9 = omega arith

pub numbers_are : (f : Form) (h : Header) → IsHeader h → AreNumbers (count_of f) (numbers_by f h)
numbers_are Ooa h is = let q = number_of-le is.order in record {
  size = refl;
  small = All-from_recursion (λ n. n < 1000) (numbers_by Ooa h)
      (omega (arith, is.order_is), (omega (arith, is.columns_to), (omega (arith, is.coordinates_to), (omega (arith, is.depth_to, is.columns_to), (omega (arith, is.strength, is.columns_to), tt)))));
}
numbers_are Net h is = let q = number_of-le is.order in record {
  size = refl;
  small = All-from_recursion (λ n. n < 1000) (numbers_by Net h) (omega (arith, is.order_is), (omega (arith, is.columns_to), (omega (arith, is.coordinates_to), (omega (arith, is.columns_to), tt))));
}
numbers_are Seq h is = let q = number_of-le is.order in record {
  size = refl;
  small = All-from_recursion (λ n. n < 1000) (numbers_by Seq h) (omega (arith, is.order_is), (omega (arith, is.columns_to), (omega (arith, is.coordinates_to), (omega (arith, is.columns_to), tt))));
}

-- the header that starts with this word has this form, and its numbers
pub record HasForm (f : Form) (words : List (List ℕ)) (h : Header) : Type 0 where
  pub form : h.form ≡ f
  pub numbers : AreNumbers (count_of f) (numbers_by f h)
  pub rest : words ≡ map decimal (numbers_by f h) ++ h.name ∷ []

pub has_form : (f : Form) (word line : List ℕ) (words : List (List ℕ)) (h : Header) → words_of line ≡ word ∷ words → word ≡ form_word f → IsHeaderLine line h → HasForm f words h
has_form f word line words h line_is word_is is =
    let whole : word ∷ words ≡ header_words h = sym line_is ∙ is.words in
    let first : word ≡ form_word h.form = cc in
    let form : h.form ≡ f = same_form h.form f (sym first ∙ word_is) in
    let rest : words ≡ map decimal (numbers_by h.form h) ++ h.name ∷ [] = cc in
    record {
      form = form;
      numbers = numbers_are f h is.header;
      rest = rest ∙ ap (λ g. map decimal (numbers_by g h) ++ h.name ∷ []) form;
    }

-- behind the numbers stands the name, and nothing else
pub record HasNumbers (ns : List ℕ) (f : Form) (words : List (List ℕ)) (h : Header) : Type 0 where
  pub numbers : numbers_by f h ≡ ns
  pub name : words ≡ h.name ∷ []

pub has_numbers : (f : Form) (ns : List ℕ) (words rest : List (List ℕ)) (h : Header) → HasForm f words h → AreNumbers (count_of f) ns → words ≡ map decimal ns ++ rest → HasNumbers ns f rest h
has_numbers f ns words rest h has are e =
    let both = same_numbers ns (numbers_by f h) rest (h.name ∷ []) (are.size ∙ sym has.numbers.size) are.small has.numbers.small (sym e ∙ has.rest) in
    record { numbers = sym both.0; name = both.1 }

-- the words of a line, as they were read
pub record AreWords (f : Form) (ns name line : List ℕ) : Type 0 where
  pub numbers : AreNumbers (count_of f) ns
  pub words : words_of line ≡ form_word f ∷ map decimal ns ++ name ∷ []

pub IsHeaderOf-line : (f : Form) (ns name line : List ℕ) → AreWords f ns name line → (r : Option Header)
    → MatchOption r ((h : Header) → ¬ IsHeaderOf f ns name h) (λ h. IsHeaderOf f ns name h) → MatchOption r ((h : Header) → ¬ IsHeaderLine line h) (λ h. IsHeaderLine line h)
IsHeaderOf-line f ns name line are None none = λ h is.
    let form = has_form f (form_word f) line (map decimal ns ++ name ∷ []) h are.words refl is in
    let numbers = has_numbers f ns (map decimal ns ++ name ∷ []) (name ∷ []) h form are.numbers refl in
    let same : name ∷ [] ≡ h.name ∷ [] = numbers.name in
    none h (record { header = is.header; form_is = form.form; numbers = numbers.numbers; name_is = cc })
IsHeaderOf-line f ns name line are (Some h) of = record {
  header = of.header;
  words = are.words
      ∙ ap₂ (λ (ms title : List ℕ). form_word f ∷ map decimal ms ++ title ∷ []) (sym of.numbers) (sym of.name_is)
      ∙ ap (λ g. form_word g ∷ map decimal (numbers_by g h) ++ h.name ∷ []) (sym of.form_is);
}

abbrev header_with : Form → ℕ → ℕ → ℕ → ℕ → ℕ → List ℕ → Header
header_with form q m s depth k name = record { form = form; q = q; m = m; s = s; depth = depth; k = k; name = name }

-- the numbers of a header give its depth and its strength
same_sizes : (f : Form) (g h : Header) → IsHeader g → IsHeader h → g.form ≡ f → h.form ≡ f → numbers_by f g ≡ numbers_by f h → (g.q ≡ h.q) × (g.m ≡ h.m) × (g.s ≡ h.s) × (g.depth ≡ h.depth) × (g.k ≡ h.k)
same_sizes Ooa g h a b p r e = (cc, cc, cc, cc, cc)
same_sizes Net g h a b p r e =
    let m : g.m ≡ h.m = cc in
    let t : g.m - g.k ≡ h.m - h.k = cc in
    (cc, m, cc, a.net p ∙ m ∙ sym (b.net r), omega (arith, a.strength, b.strength))
same_sizes Seq g h a b p r e =
    let m : g.m ≡ h.m = cc in
    let t : g.m - g.k ≡ h.m - h.k = cc in
    (cc, m, cc, a.sequence p ∙ m ∙ sym (b.sequence r), omega (arith, a.strength, b.strength))

-- a line has one header
pub header_unique : (line : List ℕ) (g h : Header) → IsHeaderLine line g → IsHeaderLine line h → g ≡ h
header_unique line g h a b =
    let words = map decimal (numbers_by g.form g) ++ g.name ∷ [] in
    let other = has_form g.form (form_word g.form) line words h a.words refl b in
    let rest = has_numbers g.form (numbers_by g.form g) words (g.name ∷ []) h other (numbers_are g.form g a.header) refl in
    let same = same_sizes g.form g h a.header b.header refl other.form (sym rest.numbers) in
    let named : g.name ∷ [] ≡ h.name ∷ [] = rest.name in
    let name : g.name ≡ h.name = cc in
    ap (λ f. header_with f g.q g.m g.s g.depth g.k g.name) (sym other.form)
    ∙ ap (λ q. header_with h.form q g.m g.s g.depth g.k g.name) same.0
    ∙ ap (λ m. header_with h.form h.q m g.s g.depth g.k g.name) same.1
    ∙ ap (λ s. header_with h.form h.q h.m s g.depth g.k g.name) same.2
    ∙ ap (λ d. header_with h.form h.q h.m h.s d g.k g.name) same.3
    ∙ ap (λ k. header_with h.form h.q h.m h.s h.depth k g.name) same.4
    ∙ ap (λ (n : List ℕ). header_with h.form h.q h.m h.s h.depth h.k n) name

pub header_found : (line : List ℕ) (h : Header) → IsHeaderLine line h → (r : Option Header) → MatchOption r ((g : Header) → ¬ IsHeaderLine line g) (IsHeaderLine line) → r ≡ Some h
header_found line h is None none = absurd (none h is)
header_found line h is (Some g) found = ap Some (header_unique line g h found is)
