-- The canonical text of a claim is an import text.
use Rattle.std.proofs.Common.{◌≡◌, ◌≢◌, ℕ, zero, suc, ◌+◌, ◌-◌, ◌*◌, ◌<◌, ◌≤◌, eqb, ltb, ltb-true, false, not, List, [], ◌∷◌, ◌++◌, length, map, flat_map, get_or, take, drop, min, codes, All, Contains, decimal, refl, sym, ap, ap₂, ◌∙◌, subst, arith, append_assoc, length-append, append-nil, suc-mul}
use Rattle.std.specs.List.{join_with_byte}
use Rattle.std.proofs.lemmas.Bool.{ne_eqb, cond-true, cond-false}
use Rattle.std.proofs.lemmas.Fmt.{decimal_nonempty}
use Rattle.std.proofs.lemmas.List.{take_at, drop_at, take-append-drop, length-map, length-take-le, length-drop, get_or_default, nil_from_length}
use Rattle.std.proofs.lemmas.List.Elements.{All-nil, All-cons, All-head, All-tail, All-append, All-map, All-take, All-drop, All-weaker, All-get_or, All-from_get_or, All-from_recursion}
use Rattle.std.proofs.lemmas.Str.Parse.{digit_at}
use Rattle.mt_linear.specs.Field.{number_of}
use Rattle.mt_linear.proofs.FieldLaws.{all_below-at}
use Rattle.mt_system.specs.declared.claims.Claim.{Claim}
use Rattle.mt_system.specs.Statements.{statement_of}
use Rattle.mt_system.specs.declared.claims.Form.{Form}
use Rattle.mt_system.specs.declared.claims.Form.TheVariants.{Ooa, Net, Seq}
use Rattle.mt_system.specs.Rows.{IsSystem}
use Rattle.mt_system.specs.Claims.{IsName, name_characters}
use Rattle.mt_system.specs.Notes.{IsNote}
use Rattle.mt_import.specs.declared.headers.Header.{Header}
use Rattle.mt_import.specs.Lines.{is_blank, without_return, lines_of, words_of, from_word, to_word, trimmed, without_blanks}
use Rattle.mt_import.specs.Sources.{StartsSource, NoSource, IsSource}
use Rattle.mt_system.specs.Forms.{form_word}
use Rattle.mt_import.specs.Headers.{numbers_by, header_words, IsHeader}
use Rattle.mt_import.specs.Texts.{IsRow, digits_of, IsBlankLine, IsImport}
use Rattle.mt_import.specs.Canonical.{header_of, source_text, rows_text, canonical_text}
use Rattle.mt_import.proofs.LineLemmas.{pieces_of-line, words_of-one, words_of-last, to_word-same}
use Rattle.mt_import.proofs.NumberLemmas.{AllDigits-decimal}
use Rattle.mt_import.proofs.HeaderLemmas.{numbers_are, number_of-le}

-- the rows behind the first
pub record IsNextRow (m left : ℕ) (all row rest : List ℕ) (n : ℕ) : Type 0 where
  pub size : length rest ≡ n * m
  pub text : rows_text m left all ≡ map (λ d. 48 + d) row ++ 10 ∷ rows_text m n rest

-- where digits are left, they are a row and the digits behind it
pub next_row : (m left : ℕ) (all row rest : List ℕ) → all ≡ row ++ rest → length row ≡ min m (length all) → 0 < length all → length all ≡ left * m
    → (n : ℕ) × IsNextRow m left all row rest n
next_row m zero all row rest parts size some whole = absurd (omega arith)
next_row m (suc n) all row rest parts size some whole =
    let sum = suc-mul n m in
    let full : length row ≡ m = omega arith in
    let both = ap length parts ∙ length-append row rest in (
      n,
      record {
        size = omega arith;
        text = ap₂ (λ (xs ys : List ℕ). map (λ d. 48 + d) xs ++ 10 ∷ rows_text m n ys)
            (ap (take m) parts ∙ take_at row rest m full) (ap (drop m) parts ∙ drop_at row rest m full);
      },
    )

-- where no digits are left, no row is
pub no_row : (m left : ℕ) (all : List ℕ) → 0 < m → length all ≡ 0 → length all ≡ left * m → rows_text m left all ≡ []
no_row m zero all some none whole = refl
no_row m (suc n) all some none whole = absurd (omega (arith, suc-mul n m))

-- a byte over 32 is no blank
not_blank : (b : ℕ) → 32 < b → is_blank b ≡ false
not_blank b l = rw (ne_eqb b 32 (λ e. omega arith), ne_eqb b 9 (λ e. omega arith)) refl

-- at least one byte, and none of 32 or less
pub record IsWord (word : List ℕ) : Type 0 where
  pub some : 0 < length word
  pub visible : All (λ b. 32 < b) word

-- nor are all bytes of a word
not_blanks : (word : List ℕ) → All (λ b. 32 < b) word → All (λ b. is_blank b ≡ false) word
not_blanks word visible = All-weaker (λ b. 32 < b) (λ b. is_blank b ≡ false) not_blank word visible

-- words with single spaces between them are these words
pub words_of-join : (words : List (List ℕ)) → All IsWord words → words_of (join_with_byte 32 words) ≡ words
words_of-join [] h = refl
words_of-join (w ∷ []) h = let word = All-head IsWord w [] h in words_of-last w word.some (not_blanks w word.visible)
words_of-join ([] ∷ v ∷ ws) h = let some = (All-head IsWord [] (v ∷ ws) h).some in absurd (omega arith)
words_of-join ((b ∷ bs) ∷ v ∷ ws) h =
    words_of-one b bs (32 ∷ join_with_byte 32 (v ∷ ws)) (not_blanks (b ∷ bs) (All-head IsWord (b ∷ bs) (v ∷ ws) h).visible) refl
    ∙ ap (λ (words : List (List ℕ)). (b ∷ bs) ∷ words) (words_of-join (v ∷ ws) (All-tail IsWord (b ∷ bs) (v ∷ ws) h))

-- bytes over 32 are over 13: none of them ends a line, or is left off at the end of one
over_thirteen : (word : List ℕ) → All (λ b. 32 < b) word → All (λ b. 13 < b) word
over_thirteen word visible = All-weaker (λ b. 32 < b) (λ b. 13 < b) (λ b l. omega arith) word visible

-- so are those of words with single spaces between them
pub All-join : (words : List (List ℕ)) → All IsWord words → All (λ b. 13 < b) (join_with_byte 32 words)
All-join [] h = All-nil (λ b. 13 < b)
All-join (w ∷ []) h = over_thirteen w (All-head IsWord w [] h).visible
All-join (w ∷ v ∷ ws) h =
    let P : ℕ → Type 0 = λ b. 13 < b in
    let rest = join_with_byte 32 (v ∷ ws) in
    All-append P w (32 ∷ rest) (over_thirteen w (All-head IsWord w (v ∷ ws) h).visible)
    (All-cons P 32 rest (omega arith) (All-join (v ∷ ws) (All-tail IsWord w (v ∷ ws) h)))

-- nothing is left off at the end of such a line
without_return-same : (line : List ℕ) → All (λ b. 13 < b) line → without_return line ≡ line
without_return-same [] h = refl
without_return-same (b ∷ []) h = let over : 13 < b = All-head (λ b. 13 < b) b [] h in cond-false (eqb b 13) _ _ (ne_eqb b 13 (λ e. omega arith))
without_return-same (b ∷ c ∷ bs) h = ap (λ (line : List ℕ). b ∷ line) (without_return-same (c ∷ bs) (All-tail (λ b. 13 < b) b (c ∷ bs) h))

-- such bytes up to a line feed are the first line
pub lines_of-line : (line rest : List ℕ) → All (λ b. 13 < b) line → lines_of (line ++ 10 ∷ rest) ≡ line ∷ lines_of rest
lines_of-line line rest h =
    ap (map without_return) (pieces_of-line line rest (All-weaker (λ b. 13 < b) (λ b. b ≢ 10) (λ b l e. omega arith) line h))
    ∙ ap (λ (first : List ℕ). first ∷ lines_of rest) (without_return-same line h)

-- the line of a row with these digits
abbrev row_line : List ℕ → List ℕ
row_line ds = map (λ d. 48 + d) ds

-- the lines of n rows of m digits
abbrev row_lines : ℕ → ℕ → List ℕ → List (List ℕ)
row_lines m zero ds = []
row_lines m (suc n) ds = row_line (take m ds) ∷ row_lines m n (drop m ds)

-- digits are over 32
visible_row : (ds : List ℕ) → All (λ b. 32 < b) (row_line ds)
visible_row ds = All-map (λ b. 32 < b) (λ d. 48 + d) ds (λ k d l. omega arith)

-- the lines of the text of rows
lines_of-rows_text : (m n : ℕ) (ds : List ℕ) → lines_of (rows_text m n ds) ≡ row_lines m n ds
lines_of-rows_text m zero ds = refl
lines_of-rows_text m (suc n) ds =
    lines_of-line (row_line (take m ds)) (rows_text m n (drop m ds)) (over_thirteen (row_line (take m ds)) (visible_row (take m ds)))
    ∙ ap (λ (lines : List (List ℕ)). row_line (take m ds) ∷ lines) (lines_of-rows_text m n (drop m ds))

-- there are n of them
length-row_lines : (m n : ℕ) (ds : List ℕ) → length (row_lines m n ds) ≡ n
length-row_lines m zero ds = refl
length-row_lines m (suc n) ds = ap suc (length-row_lines m n (drop m ds))

-- no byte over 32 is taken out
without_blanks-same : (line : List ℕ) → All (λ b. 32 < b) line → without_blanks line ≡ line
without_blanks-same [] h = refl
without_blanks-same (b ∷ bs) h =
    cond-true (not (is_blank b)) _ _ (ap not (not_blank b (All-head (λ b. 32 < b) b bs h)))
    ∙ ap (λ (line : List ℕ). b ∷ line) (without_blanks-same bs (All-tail (λ b. 32 < b) b bs h))

-- all bytes of a row's line are digits
marks_of_row : (ds : List ℕ) → without_blanks (row_line ds) ≡ row_line ds
marks_of_row ds = without_blanks-same (row_line ds) (visible_row ds)

-- the digits of the line are those of the row
digits_of-row_line : (ds : List ℕ) → digits_of (row_line ds) ≡ ds
digits_of-row_line ds = ap (map (λ b. b - 48)) (marks_of_row ds) ∙ back ds
  where
    back : (ds : List ℕ) → map (λ b. b - 48) (row_line ds) ≡ ds
    back [] = refl
    back (d ∷ ds) = ap₂ (λ n (ns : List ℕ). n ∷ ns) (let e : 48 + d - 48 ≡ d = omega arith in e) (back ds)

-- the line of m digits below q is a row
IsRow-row_line : (q m : ℕ) (ds : List ℕ) → length ds ≡ m → All (λ d. d < q) ds → IsRow q m (row_line ds)
IsRow-row_line q m ds size small =
    let P : ℕ → Type 0 = λ b. (48 ≤ b) × (b < 48 + q) in
    record {
      size = ap length (marks_of_row ds) ∙ length-map ds (λ d. 48 + d) ∙ size;
      digits = subst (All P) (sym (marks_of_row ds)) (All-map P (λ d. 48 + d) ds (All-weaker (λ d. d < q) (λ d. P (48 + d)) (λ d l. (omega arith, omega arith)) ds small));
    }

-- all lines are rows
All-row_lines : (q m n : ℕ) (ds : List ℕ) → length ds ≡ n * m → All (λ d. d < q) ds → All (IsRow q m) (row_lines m n ds)
All-row_lines q m zero ds size small = All-nil (IsRow q m)
All-row_lines q m (suc n) ds size small =
    let enough : m ≤ length ds = omega (arith, suc-mul n m) in
    let P : ℕ → Type 0 = λ d. d < q in
    All-cons (IsRow q m) (row_line (take m ds)) (row_lines m n (drop m ds))
    (IsRow-row_line q m (take m ds) (length-take-le m ds enough) (All-take P m ds small))
    (All-row_lines q m n (drop m ds) (omega (arith, length-drop m ds, suc-mul n m)) (All-drop P m ds small))

-- the digits of all lines are those of the system
digits_of-row_lines : (m n : ℕ) (ds : List ℕ) → length ds ≡ n * m → flat_map digits_of (row_lines m n ds) ≡ ds
digits_of-row_lines m zero ds size = sym (nil_from_length ds (omega arith))
digits_of-row_lines m (suc n) ds size =
    ap₂ (λ (xs ys : List ℕ). xs ++ ys) (digits_of-row_line (take m ds)) (digits_of-row_lines m n (drop m ds) (omega (arith, length-drop m ds, suc-mul n m)))
    ∙ take-append-drop m ds

-- a row of digits does not begin as a source line
no_source_row : (ds : List ℕ) → All (λ d. d < 10) ds → StartsSource (row_line ds) → ⊥
no_source_row [] small starts = let e : [] ≡ codes "source" ++ starts.0 = starts.1 in absurd (cc)
no_source_row (d ∷ ds) small starts =
    let first : d < 10 = All-head (λ d. d < 10) d ds small in
    let line : from_word (row_line (d ∷ ds)) ≡ row_line (d ∷ ds) = cond-false (is_blank (48 + d)) _ _ (not_blank (48 + d) (omega arith)) in
    let whole : (48 + d) ∷ row_line ds ≡ codes "source" ++ starts.0 = sym line ∙ starts.1 in
    let letter : 48 + d ≡ 115 = cc in
    absurd (omega arith)

-- so no rows do
no_source_rows : (m n : ℕ) (ds : List ℕ) → All (λ d. d < 10) ds → NoSource (row_lines m n ds)
no_source_rows m zero ds small = tt
no_source_rows m (suc n) ds small = no_source_row (take m ds) (All-take (λ d. d < 10) m ds small)

-- the source line of this note, where there is a note
abbrev source_lines : List ℕ → List (List ℕ)
source_lines [] = []
source_lines (b ∷ bs) = (codes "source" ++ 32 ∷ b ∷ bs) ∷ []

-- the lines of a text that begins with it
lines_of-source_text : (note rest : List ℕ) → IsNote note → lines_of (source_text note ++ rest) ≡ source_lines note ++ lines_of rest
lines_of-source_text [] rest is = refl
lines_of-source_text (b ∷ bs) rest is =
    let P : ℕ → Type 0 = λ b. 13 < b in
    let line = codes "source" ++ 32 ∷ b ∷ bs in
    let visible : All P (b ∷ bs) = All-weaker (λ b. (32 ≤ b) × (b ≤ 126)) P (λ b h. (let from : 32 ≤ b = h.0 in let over : 13 < b = omega arith in over)) (b ∷ bs) is.characters in
    let word : All P (codes "source") = All-from_recursion P (codes "source") (omega arith, (omega arith, (omega arith, (omega arith, (omega arith, (omega arith, tt)))))) in
    ap lines_of (append_assoc line (10 ∷ []) rest) ∙ lines_of-line line rest (All-append P (codes "source") (32 ∷ b ∷ bs) word (All-cons P 32 (b ∷ bs) (omega arith) visible))

-- a note has no blanks at its ends
trimmed-note : (note : List ℕ) → 0 < length note → IsNote note → trimmed note ≡ note
trimmed-note [] some is = absurd (omega arith)
trimmed-note (b ∷ bs) some is =
    let P : ℕ → Type 0 = λ b. (32 ≤ b) × (b ≤ 126) in
    let visible : (b : ℕ) → 32 ≤ b → b ≢ 32 → is_blank b ≡ false = λ b from ne. rw (ne_eqb b 32 ne, ne_eqb b 9 (λ e. omega arith)) refl in
    let last = get_or (b ∷ bs) (length (b ∷ bs) - 1) 0 in
    let inside : P last = All-get_or P (b ∷ bs) (length (b ∷ bs) - 1) 0 (omega arith) is.characters in
    ap to_word (cond-false (is_blank b) _ _ (visible b (All-head P b bs is.characters).0 is.first))
    ∙ to_word-same (b ∷ bs) some (visible last inside.0 is.last)

-- the source line of a note, and the rows behind it, are read as this note
is_source : (note : List ℕ) (behind : List (List ℕ)) → IsNote note → NoSource behind → IsSource (source_lines note) note behind
is_source [] behind is none = (refl, none)
is_source (b ∷ bs) behind is none = record {
  rest = 32 ∷ b ∷ bs;
  line_is = refl;
  blank = refl;
  note_is = sym (trimmed-note (b ∷ bs) (omega arith) is);
  some = omega arith;
  form = is;
}

-- the words of forms
IsWord-form : (f : Form) → IsWord (form_word f)
IsWord-form Ooa = record { some = omega arith; visible = All-from_recursion (λ b. 32 < b) (form_word Ooa) (omega arith, (omega arith, (omega arith, tt))) }
IsWord-form Net = record { some = omega arith; visible = All-from_recursion (λ b. 32 < b) (form_word Net) (omega arith, (omega arith, (omega arith, tt))) }
IsWord-form Seq = record { some = omega arith; visible = All-from_recursion (λ b. 32 < b) (form_word Seq) (omega arith, (omega arith, (omega arith, tt))) }

-- numbers are words
IsWord-decimal : (n : ℕ) → n < 1000 → IsWord (decimal n)
IsWord-decimal n small = record {
  some = decimal_nonempty n (omega arith);
  visible = All-from_get_or (λ b. 32 < b) (decimal n) 0 (λ i l. let digit = digit_at (decimal n) i (AllDigits-decimal n (decimal n) small refl) l in omega (arith, digit.0));
}

-- the characters of names are over 32, as each of them is
visible_in_names : (b : ℕ) → Contains name_characters b → 32 < b
visible_in_names b h =
    let k = h.0 in
    let more : 32 < get_or name_characters k 0 = ltb-true _ _ (all_below-at 39 (λ k. ltb 32 (get_or name_characters k 0)) refl k h.1) in
    let same : get_or name_characters k 0 ≡ b = get_or_default name_characters k 0 b h.1 ∙ h.2 in
    omega arith

-- names are words
pub IsWord-name : (name : List ℕ) → IsName name → IsWord name
IsWord-name name is = record { some = is.some; visible = All-weaker (Contains name_characters) (λ b. 32 < b) visible_in_names name is.characters }

-- a header has words alone
All-header_words : (h : Header) → IsHeader h → All IsWord (header_words h)
All-header_words h is =
    let ns = numbers_by h.form h in
    All-cons IsWord (form_word h.form) (map decimal ns ++ h.name ∷ []) (IsWord-form h.form)
    (All-append IsWord (map decimal ns) (h.name ∷ [])
    (All-map IsWord decimal ns (All-weaker (λ n. n < 1000) (λ n. IsWord (decimal n)) IsWord-decimal ns (numbers_are h.form h is).small))
    (All-cons IsWord h.name [] (IsWord-name h.name is.name) (All-nil IsWord)))

-- the line of a header: its first word, the numbers with a space before each, and the name
pub join_with_byte-header : (word : List ℕ) (ns name : List ℕ) → join_with_byte 32 (word ∷ map decimal ns ++ name ∷ []) ≡ word ++ (flat_map (λ n. 32 ∷ decimal n) ns ++ 32 ∷ name)
join_with_byte-header word [] name = refl
join_with_byte-header word (n ∷ ns) name =
    ap (λ (line : List ℕ). word ++ 32 ∷ line) (join_with_byte-header (decimal n) ns name ∙ sym (append_assoc (decimal n) (flat_map (λ n. 32 ∷ decimal n) ns) (32 ∷ name)))

-- what is known of a claim beside what it keeps itself
pub record IsWhole (c : Claim) : Type 0 where
  pub name : IsName c.name
  pub note : IsNote c.note
  pub system : IsSystem c.system.order c.system.columns c.system.coordinates c.system.depth c.system.digits

-- the header of a claim's text is one that the reader takes
IsHeader-claim : (c : Claim) → IsWhole c → IsHeader (header_of (statement_of c))
IsHeader-claim c is = record {
  order = c.system.order;
  order_is = refl;
  columns_from = is.system.columns_from;
  columns_to = omega (arith, is.system.columns_to);
  coordinates_from = is.system.coordinates_from;
  coordinates_to = omega (arith, is.system.coordinates_to);
  depth_from = is.system.depth_from;
  depth_to = c.is_claim.depth;
  strength = c.is_claim.strength;
  net = c.is_claim.net;
  sequence = c.is_claim.sequence;
  name = is.name;
}

-- the canonical text is an import text with this header, this note and these digits
pub canonical_is_import : (c : Claim) (text : List ℕ) → IsWhole c → text ≡ canonical_text (statement_of c) → length text ≤ 65536 → IsImport text (header_of (statement_of c)) c.note c.system.digits
canonical_is_import c text is text_is few =
    let h = header_of (statement_of c) in
    let header = IsHeader-claim c is in
    let words = All-header_words h header in
    let line = join_with_byte 32 (header_words h) in
    let m = c.system.columns in
    let n = c.system.coordinates * c.system.depth in
    let ds = c.system.digits in
    let rows = row_lines m n ds in
    let q = number_of c.system.order in
    let small : All (λ d. d < q) ds = All-from_get_or (λ d. d < q) ds 0 (λ i l. is.system.elements i) in
    let below_ten : All (λ d. d < 10) ds = All-weaker (λ d. d < q) (λ d. d < 10) (λ d l. omega (arith, number_of-le c.system.order)) ds small in
    let all : rows ≡ rows ++ [] = sym (append-nil rows) in
    record {
      source = source_lines c.note;
      rows = rows;
      blanks = [];
      begins = record {
        few = few;
        first = line;
        lines = ap lines_of text_is ∙ lines_of-line line (source_text c.note ++ rows_text m n ds) (All-join (header_words h) words)
            ∙ ap (λ (lines : List (List ℕ)). line ∷ lines) (lines_of-source_text c.note (rows_text m n ds) is.note
            ∙ ap (λ (lines : List (List ℕ)). source_lines c.note ++ lines) (lines_of-rows_text m n ds ∙ all));
        header = record { header = header; words = words_of-join (header_words h) words };
        source_is = is_source c.note (rows ++ []) is.note (subst NoSource all (no_source_rows m n ds below_ten));
        each = All-row_lines q m n ds is.system.size small;
      };
      number = length-row_lines m n ds;
      digits_are = sym (digits_of-row_lines m n ds is.system.size);
      blank = All-nil IsBlankLine;
    }
