-- What was read so far of the lines behind the header.
use Rattle.std.proofs.Common.{◌≡◌, ℕ, ◌+◌, ◌-◌, ◌*◌, suc-mul, zero-mul, ◌<◌, ◌≤◌, List, [], ◌∷◌, ◌++◌, length, get_or, take, drop, min, length-take, length-drop, flat_map, All, refl, sym, ap, ◌∙◌, subst, arith}
use Rattle.std.proofs.lemmas.List.{append_assoc, drop_more, take_more, get_or-take, take_at, length-append, length-map, length_push}
use Rattle.std.proofs.lemmas.List.Elements.{All-nil, All-push, All-head, All-tail, All-append, All-map, All-weaker}
use Rattle.mt_import.specs.declared.headers.Header.{Header}
use Rattle.mt_import.specs.declared.refusals.FormRefused.{FormRefused}
use Rattle.mt_import.specs.declared.refusals.FormRefused.TheVariants.{Line}
use Rattle.mt_import.specs.declared.refusals.Wanted.TheVariants.{Source}
use Rattle.mt_import.specs.declared.import_text.TheConstants.{MOST_BYTES}
use Rattle.mt_import.specs.Lines.{lines_of, without_blanks}
use Rattle.mt_import.specs.Headers.{IsHeader}
use Rattle.mt_import.specs.Texts.{IsRow, digits_of, IsBlankLine, HasBadSource, HasHeader, IsImport, IsRefusal}
use Rattle.mt_import.specs.Reading.{StartsWith, HasRows, row_lines, TakesRows}

-- the list before goes on with one more line
lines_more : (text rest behind line : List ℕ) (lines : List (List ℕ)) → lines_of text ≡ lines ++ lines_of rest → lines_of rest ≡ line ∷ lines_of behind → lines_of text ≡ (lines ++ line ∷ []) ++ lines_of behind
lines_more text rest behind line lines e next = e ∙ ap (λ (ls : List (List ℕ)). lines ++ ls) next ∙ sym (append_assoc lines (line ∷ []) (lines_of behind))

pub takes_more : (h : Header) (n : ℕ) (text rest behind row : List ℕ) (rows : List (List ℕ)) → TakesRows h n text rest rows → lines_of rest ≡ row ∷ lines_of behind → IsRow h.q h.m row
    → TakesRows h (n + 1) text behind (rows ++ row ∷ [])
takes_more h n text rest behind row rows takes next is = record {
  number = length_push rows row ∙ ap (λ k. k + 1) takes.number;
  lines = lines_more text rest behind row rows takes.lines next;
  each = All-push (IsRow h.q h.m) rows row takes.each is;
}

-- blank lines, with the rest behind them
pub record TakesBlanks (text rest : List ℕ) (blanks : List (List ℕ)) : Type 0 where
  pub lines : lines_of text ≡ blanks ++ lines_of rest
  pub each : All IsBlankLine blanks
  pub few : length blanks + length rest ≤ length text

pub refused_source : (text rest : List ℕ) (h : Header) (refused : FormRefused) → length text ≤ MOST_BYTES → StartsWith text h rest → refused ≡ Line 2 Source → HasBadSource (lines_of rest) → IsRefusal text refused
refused_source text rest h refused few starts e bad =
    subst (IsRefusal text) (sym e) (record {
      few = few;
      header = h;
      starts = record { line = starts.line; others = lines_of rest; lines = starts.lines; header = starts.header };
      line = refl;
      refused = bad;
    })

pub length-digits : (q m : ℕ) (rows : List (List ℕ)) → All (IsRow q m) rows → length (flat_map digits_of rows) ≡ length rows * m
length-digits q m [] each = sym (zero-mul m)
length-digits q m (row ∷ rows) each =
    let first = (All-head (IsRow q m) row rows each).size in
    let size : length (digits_of row) ≡ m = length-map (without_blanks row) (λ b. b - 48) ∙ first in
    let more = length-digits q m rows (All-tail (IsRow q m) row rows each) in
    omega (arith, length-append (digits_of row) (flat_map digits_of rows), suc-mul (length rows) m)

pub small_digits : (q m : ℕ) (rows : List (List ℕ)) → All (IsRow q m) rows → All (λ d. d < q) (flat_map digits_of rows)
small_digits q m [] each = All-nil (λ d. d < q)
small_digits q m (row ∷ rows) each =
    let small = λ (b : ℕ) (h : (48 ≤ b) × (b < 48 + q)). (let from = h.0 in let to = h.1 in let r : b - 48 < q = omega arith in r) in
    All-append (λ d. d < q) (digits_of row) (flat_map digits_of rows)
    (All-map (λ d. d < q) (λ b. b - 48) (without_blanks row) (All-weaker (λ b. (48 ≤ b) × (b < 48 + q)) (λ b. b - 48 < q) small (without_blanks row) (All-head (IsRow q m) row rows each).digits))
    (small_digits q m rows (All-tail (IsRow q m) row rows each))

-- the lines that are left of a text that begins with its rows
pub record NextRow (h : Header) (text row behind : List ℕ) (n : ℕ) : Type 0 where
  pub is_row : IsRow h.q h.m row
  pub left : lines_of behind ≡ drop (n + 1) (lines_of text)
  pub passed : take (n + 1) (lines_of text) ≡ take n (lines_of text) ++ row ∷ []

pub next_row : (h : Header) (text rest row behind : List ℕ) (n : ℕ) → HasRows h text → n < h.s * h.depth → lines_of rest ≡ drop n (lines_of text) → lines_of rest ≡ row ∷ lines_of behind → NextRow h text row behind n
next_row h text rest row behind n has within left next =
    let ls = lines_of text in
    let size : length (take (h.s * h.depth) ls) ≡ min (h.s * h.depth) (length ls) = length-take (h.s * h.depth) ls in
    let inside : n < length ls = omega (arith, has.number) in
    let cut : row ∷ lines_of behind ≡ get_or ls n row ∷ drop (n + 1) ls = sym next ∙ left ∙ drop_more ls n row inside in
    let head : row ≡ get_or ls n row = cc in
    let tail : lines_of behind ≡ drop (n + 1) ls = cc in
    let at : get_or (row_lines h text) n row ≡ row = get_or-take (h.s * h.depth) ls n row within ∙ sym head in
    record {
      is_row = subst (IsRow h.q h.m) at (has.each n row (omega (arith, has.number)));
      left = tail;
      passed = take_more ls n row inside ∙ ap (λ (x : List ℕ). take n ls ++ x ∷ []) (sym head);
    }

pub some_row : (h : Header) (text rest : List ℕ) (n : ℕ) → HasRows h text → n < h.s * h.depth → lines_of rest ≡ drop n (lines_of text) → lines_of rest ≡ [] → ⊥
some_row h text rest n has within left none =
    let ls = lines_of text in
    let size : length (take (h.s * h.depth) ls) ≡ min (h.s * h.depth) (length ls) = length-take (h.s * h.depth) ls in
    let few : length (drop n ls) ≡ length ls - n = length-drop n ls in
    let zero : length (drop n ls) ≡ 0 = ap (λ (x : List (List ℕ)). length x) (sym left ∙ none) in
    omega (arith, has.number)

-- what was read begins with its rows
pub has_rows : (h : Header) (text rest : List ℕ) (rows : List (List ℕ)) → IsHeader h → TakesRows h (h.s * h.depth) text rest rows → row_lines h text ≡ rows
has_rows h text rest rows is takes =
    ap (λ (ls : List (List ℕ)). take (h.s * h.depth) ls) takes.lines ∙ take_at rows (lines_of rest) (h.s * h.depth) takes.number

pub has_header : (text : List ℕ) (h : Header) (note digits : List ℕ) → IsImport text h note digits → HasHeader text h
has_header text h note digits is = record {
  line = is.begins.first;
  others = is.source ++ (is.rows ++ is.blanks);
  lines = is.begins.lines;
  header = is.begins.header;
}
