-- Canonical texts within bounds are short.
use Rattle.std.proofs.Common.{◌≡◌, ℕ, zero, suc, ◌+◌, ◌*◌, ◌<◌, ◌≤◌, List, [], ◌∷◌, ◌++◌, length, map, take, drop, refl, sym, ap, ◌∙◌, arith, append_assoc, length-append, length-take}
use Rattle.std.specs.Prelude.{decimal, flat_map}
use Rattle.std.specs.List.{join_with_byte, AllByRecursion}
use Rattle.std.proofs.lemmas.List.{length-map}
use Rattle.std.proofs.lemmas.List.Elements.{recursion_from_All}
use Rattle.std.proofs.lemmas.Fmt.{length-decimal-le}
use Rattle.std.proofs.lemmas.Nat.{mul-le}
use Rattle.std.proofs.Math.Nat.{suc-mul}
use Rattle.mt_system.specs.declared.claims.Form.{Form}
use Rattle.mt_system.specs.declared.claims.Form.TheVariants.{Ooa, Net, Seq}
use Rattle.mt_system.specs.Forms.{form_word}
use Rattle.mt_system.specs.Statements.{Statement}
use Rattle.mt_import.specs.declared.headers.Header.{Header}
use Rattle.mt_import.specs.Headers.{numbers_by, header_words, IsHeader}
use Rattle.mt_import.specs.Sources.{IsSource}
use Rattle.mt_import.specs.Canonical.{header_of, source_text, rows_text, canonical_text}
use Rattle.mt_import.specs.HeaderParts.{count_of, AreNumbers}
use Rattle.mt_import.proofs.HeaderLemmas.{numbers_are}

numbers_short : (ns : List ℕ) → AllByRecursion (λ n. n < 1000) ns → length (flat_map (λ n. 32 ∷ decimal n) ns) ≤ 4 * length ns
numbers_short [] h = omega arith
numbers_short (n ∷ ns) h =
    let small : n < 1000 = h.0 in
    let rest = numbers_short ns h.1 in
    omega (arith, rest, length-append (decimal n) (flat_map (λ n. 32 ∷ decimal n) ns), length-decimal-le 3 n (omega arith) small (omega arith))

joined : (word : List ℕ) (ns name : List ℕ) → join_with_byte 32 (word ∷ map decimal ns ++ name ∷ []) ≡ word ++ (flat_map (λ n. 32 ∷ decimal n) ns ++ 32 ∷ name)
joined word [] name = refl
joined word (n ∷ ns) name =
    ap (λ (line : List ℕ). word ++ 32 ∷ line) (joined (decimal n) ns name ∙ sym (append_assoc (decimal n) (flat_map (λ n. 32 ∷ decimal n) ns) (32 ∷ name)))

word_short : (f : Form) → length (form_word f) ≤ 3
word_short Ooa = omega arith
word_short Net = omega arith
word_short Seq = omega arith

count_short : (f : Form) → count_of f ≤ 5
count_short Ooa = omega arith
count_short Net = omega arith
count_short Seq = omega arith

line_short : (h : Header) → IsHeader h → length (join_with_byte 32 (header_words h)) ≤ 64
line_short h is =
    let ns : List ℕ = numbers_by h.form h in
    let numbers : AreNumbers (count_of h.form) ns = numbers_are h.form h is in
    let short = numbers_short ns (recursion_from_All (λ n. n < 1000) ns numbers.small) in
    rw (joined (form_word h.form) ns h.name) (omega (
      arith,
      length-append (form_word h.form) (flat_map (λ n. 32 ∷ decimal n) ns ++ 32 ∷ h.name),
      length-append (flat_map (λ n. 32 ∷ decimal n) ns) (32 ∷ h.name),
      word_short h.form,
      short,
      numbers.size,
      count_short h.form,
      is.name.few,
    ))

rows_short : (m n : ℕ) (digits : List ℕ) → length (rows_text m n digits) ≤ n * (m + 1)
rows_short m zero digits = omega arith
rows_short m (suc n) digits =
    let row : List ℕ = map (λ d. 48 + d) (take m digits) in
    let rest : List ℕ = rows_text m n (drop m digits) in
    let few : length (take m digits) ≤ m = rw (length-take m digits) (omega arith) in
    omega (arith, rows_short m n (drop m digits), length-append row (10 ∷ rest), length-map (take m digits) (λ d. 48 + d), few, suc-mul n (m + 1))

source_short : (note : List ℕ) → length note ≤ 200 → length (source_text note) ≤ 208
source_short [] few = omega arith
source_short (b ∷ bs) few = omega (arith, few, length-append bs (10 ∷ []))

-- the note of an import text is short
pub note_short : (source : List (List ℕ)) (note : List ℕ) (behind : List (List ℕ)) → IsSource source note behind → length note ≤ 200
note_short [] note behind is = rw is.0 (omega arith)
note_short (line ∷ []) note behind is = is.form.few
note_short (line ∷ other ∷ lines) note behind is = absurd is

pub text_short : (c : Statement) → IsHeader (header_of c) → length c.note ≤ 200 → c.system.columns ≤ 20 → c.system.coordinates ≤ 48 → length (canonical_text c) ≤ 65536
text_short c is note columns coordinates =
    let m : ℕ = c.system.columns in
    let n : ℕ = c.system.coordinates * c.system.depth in
    let rows : List ℕ = rows_text m n c.system.digits in
    let source : List ℕ = source_text c.note in
    let count : n ≤ 48 * 20 = mul-le c.system.coordinates c.system.depth 48 20 coordinates (omega (arith, is.depth_to)) in
    let size : n * (m + 1) ≤ 960 * 21 = mul-le n (m + 1) 960 21 (omega arith) (omega arith) in
    omega (
      arith,
      rows_short m n c.system.digits,
      size,
      source_short c.note note,
      line_short (header_of c) is,
      length-append source rows,
      length-append (join_with_byte 32 (header_words (header_of c))) (10 ∷ (source ++ rows)),
    )
