-- The first line of a text, and the first word of a line.
use Rattle.std.proofs.Common.{◌≡◌, ◌≢◌, ℕ, zero, suc, append-nil, ◌+◌, ◌-◌, ◌<◌, cond, eqb, true, false, List, [], ◌∷◌, ◌++◌, length, map, get_or, take, drop, All, refl, sym, ap, ◌∙◌, arith}
use Rattle.std.proofs.lemmas.Bool.{both_ways, ne_eqb, cond-true, cond-false, not_from_true, not_from_false}
use Rattle.std.proofs.lemmas.List.{take-append-drop, drop_more, length-drop, nil_from_length}
use Rattle.std.proofs.lemmas.List.Elements.{All-head, All-tail}
use Rattle.mt_import.specs.Lines.{is_blank, onto_first, pieces_of, without_return, lines_of, goes_on, words_of, from_word, onto_word, to_word}

-- a list, cut at a place within it
cut_at : (xs : List ℕ) (i : ℕ) → i < length xs → xs ≡ take i xs ++ get_or xs i 0 ∷ drop (i + 1) xs
cut_at xs i l = sym (take-append-drop i xs) ∙ ap (λ (ys : List ℕ). take i xs ++ ys) (drop_more xs i 0 l)

pub pieces_of-line : (line rest : List ℕ) → All (λ b. b ≢ 10) line → pieces_of (line ++ 10 ∷ rest) ≡ line ∷ pieces_of rest
pieces_of-line [] rest h = refl
pieces_of-line (b ∷ bs) rest h =
    cond-false (eqb b 10) _ _ (ne_eqb b 10 (All-head (λ b. b ≢ 10) b bs h))
    ∙ ap (onto_first b) (pieces_of-line bs rest (All-tail (λ b. b ≢ 10) b bs h))

pieces_of-last : (b : ℕ) (bs : List ℕ) → All (λ b. b ≢ 10) (b ∷ bs) → pieces_of (b ∷ bs) ≡ (b ∷ bs) ∷ []
pieces_of-last b [] h = cond-false (eqb b 10) _ _ (ne_eqb b 10 (All-head (λ b. b ≢ 10) b [] h))
pieces_of-last b (c ∷ bs) h =
    cond-false (eqb b 10) _ _ (ne_eqb b 10 (All-head (λ b. b ≢ 10) b (c ∷ bs) h))
    ∙ ap (onto_first b) (pieces_of-last c bs (All-tail (λ b. b ≢ 10) b (c ∷ bs) h))

pub lines_of-first : (text : List ℕ) (i : ℕ) → i < length text → get_or text i 0 ≡ 10 → All (λ b. b ≢ 10) (take i text)
    → lines_of text ≡ without_return (take i text) ∷ lines_of (drop (i + 1) text)
lines_of-first text i l feed none =
    ap lines_of (cut_at text i l ∙ ap (λ b. take i text ++ b ∷ drop (i + 1) text) feed)
    ∙ ap (map without_return) (pieces_of-line (take i text) (drop (i + 1) text) none)

pub lines_of-last : (text : List ℕ) → 0 < length text → All (λ b. b ≢ 10) text → lines_of text ≡ without_return text ∷ []
lines_of-last [] l none = absurd (omega arith)
lines_of-last (b ∷ bs) l none = ap (map without_return) (pieces_of-last b bs none)

pub without_return-push : (xs : List ℕ) (b : ℕ) → without_return (xs ++ b ∷ []) ≡ cond (eqb b 13) xs (xs ++ b ∷ [])
without_return-push [] b = refl
without_return-push (x ∷ []) b = elim (eqb b 13) as (λ t. x ∷ cond t [] (b ∷ []) ≡ cond t (x ∷ []) (x ∷ b ∷ [])) [ true ↦ refl | false ↦ refl ]
without_return-push (x ∷ y ∷ xs) b =
    ap (λ (ys : List ℕ). x ∷ ys) (without_return-push (y ∷ xs) b)
    ∙ elim (eqb b 13) as (λ t. x ∷ cond t (y ∷ xs) (y ∷ xs ++ b ∷ []) ≡ cond t (x ∷ y ∷ xs) (x ∷ y ∷ xs ++ b ∷ [])) [ true ↦ refl | false ↦ refl ]

-- blanks in front of a word
words_of-blanks : (blanks rest : List ℕ) → All (λ b. is_blank b ≡ true) blanks → words_of (blanks ++ rest) ≡ words_of rest
words_of-blanks [] rest h = refl
words_of-blanks (b ∷ bs) rest h =
    cond-true (is_blank b) _ _ (All-head (λ b. is_blank b ≡ true) b bs h) ∙ words_of-blanks bs rest (All-tail (λ b. is_blank b ≡ true) b bs h)

pub words_of-none : (line : List ℕ) → All (λ b. is_blank b ≡ true) line → words_of line ≡ []
words_of-none [] h = refl
words_of-none (b ∷ bs) h =
    cond-true (is_blank b) _ _ (All-head (λ b. is_blank b ≡ true) b bs h) ∙ words_of-none bs (All-tail (λ b. is_blank b ≡ true) b bs h)

pub words_of-one : (b : ℕ) (bs rest : List ℕ) → All (λ b. is_blank b ≡ false) (b ∷ bs) → goes_on rest ≡ false → words_of (b ∷ bs ++ rest) ≡ (b ∷ bs) ∷ words_of rest
words_of-one b [] rest h end = cond-false (is_blank b) _ _ (All-head (λ b. is_blank b ≡ false) b [] h) ∙ cond-false (goes_on rest) _ _ end
words_of-one b (c ∷ bs) rest h end =
    let P : ℕ → Type 0 = λ b. is_blank b ≡ false in
    let more : All P (c ∷ bs) = All-tail P b (c ∷ bs) h in
    cond-false (is_blank b) _ _ (All-head P b (c ∷ bs) h)
    ∙ cond-true (goes_on (c ∷ bs ++ rest)) _ _ (not_from_false (is_blank c) (All-head P c bs more))
    ∙ ap (onto_first b) (words_of-one c bs rest more end)

-- the line from its first byte that is no blank on
pub words_of-start : (line : List ℕ) (i : ℕ) → All (λ b. is_blank b ≡ true) (take i line) → words_of line ≡ words_of (drop i line)
words_of-start line i h = ap words_of (sym (take-append-drop i line)) ∙ words_of-blanks (take i line) (drop i line) h

-- a word up to the first blank
pub words_of-word : (line : List ℕ) (i : ℕ) → 0 < length line → is_blank (get_or line 0 0) ≡ false → i < length line → is_blank (get_or line i 0) ≡ true → All (λ b. is_blank b ≡ false) (take i line)
    → words_of line ≡ take i line ∷ words_of (drop i line)
words_of-word [] i some first l blank word = absurd (omega arith)
words_of-word (b ∷ bs) zero some first l blank word = absurd (both_ways (is_blank b) first blank)
words_of-word (b ∷ bs) (suc i) some first l blank word =
    ap words_of (sym (take-append-drop (suc i) (b ∷ bs)))
    ∙ words_of-one b (take i bs) (drop i bs) word (rw (drop_more bs i 0 (omega arith)) (not_from_true (is_blank (get_or bs i 0)) blank))

-- a word up to the end of the line
pub words_of-last : (line : List ℕ) → 0 < length line → All (λ b. is_blank b ≡ false) line → words_of line ≡ line ∷ []
words_of-last [] some word = absurd (omega arith)
words_of-last (b ∷ bs) some word = ap (λ (ys : List ℕ). words_of (b ∷ ys)) (sym (append-nil bs)) ∙ words_of-one b bs [] word refl

-- a line that has blanks alone has no word
pub from_word-none : (line : List ℕ) → All (λ b. is_blank b ≡ true) line → from_word line ≡ []
from_word-none [] h = refl
from_word-none (b ∷ bs) h =
    cond-true (is_blank b) _ _ (All-head (λ b. is_blank b ≡ true) b bs h) ∙ from_word-none bs (All-tail (λ b. is_blank b ≡ true) b bs h)

from_word-blanks : (blanks rest : List ℕ) → All (λ b. is_blank b ≡ true) blanks → from_word (blanks ++ rest) ≡ from_word rest
from_word-blanks [] rest h = refl
from_word-blanks (b ∷ bs) rest h =
    cond-true (is_blank b) _ _ (All-head (λ b. is_blank b ≡ true) b bs h) ∙ from_word-blanks bs rest (All-tail (λ b. is_blank b ≡ true) b bs h)

-- the first byte that is no blank, behind blanks
pub from_word-start : (line : List ℕ) (i : ℕ) → i < length line → is_blank (get_or line i 0) ≡ false → All (λ b. is_blank b ≡ true) (take i line) → from_word line ≡ drop i line
from_word-start line i l mark h =
    ap from_word (sym (take-append-drop i line)) ∙ from_word-blanks (take i line) (drop i line) h
    ∙ rw (drop_more line i 0 l) (cond-false (is_blank (get_or line i 0)) _ _ mark)

-- a blank at the end is left off
pub to_word-blank : (line : List ℕ) (b : ℕ) → is_blank b ≡ true → to_word (line ++ b ∷ []) ≡ to_word line
to_word-blank [] b h = cond-true (is_blank b) _ _ h
to_word-blank (x ∷ xs) b h = ap (onto_word x) (to_word-blank xs b h)

-- any other byte is not, nor what stands before it
pub to_word-mark : (line : List ℕ) (b : ℕ) → is_blank b ≡ false → to_word (line ++ b ∷ []) ≡ line ++ b ∷ []
to_word-mark [] b h = cond-false (is_blank b) _ _ h
to_word-mark (x ∷ []) b h = ap (onto_word x) (to_word-mark [] b h)
to_word-mark (x ∷ y ∷ xs) b h = ap (onto_word x) (to_word-mark (y ∷ xs) b h)

-- a line whose last byte is no blank is whole
pub to_word-same : (line : List ℕ) → 0 < length line → is_blank (get_or line (length line - 1) 0) ≡ false → to_word line ≡ line
to_word-same line some mark =
    let i = length line - 1 in
    let none : drop (i + 1) line ≡ [] = nil_from_length (drop (i + 1) line) (omega (arith, length-drop (i + 1) line)) in
    let cut : line ≡ take i line ++ get_or line i 0 ∷ [] = cut_at line i (omega arith) ∙ ap (λ (ys : List ℕ). take i line ++ get_or line i 0 ∷ ys) none in
    ap to_word cut ∙ to_word-mark (take i line) (get_or line i 0) mark ∙ sym cut
