-- Lines of a text, and what stands on a line beside blanks.
use Rattle.std.specs.Prelude.{ℕ, Bool, false, not, ◌||◌, ◌==◌, if◌then◌else◌, List, [], ◌∷◌, map, filter}

-- bytes by name
abbrev pub tab : ℕ
tab = 9

abbrev pub line_feed : ℕ
line_feed = 10

abbrev pub carriage_return : ℕ
carriage_return = 13

abbrev pub space : ℕ
space = 32

abbrev pub digit_zero : ℕ
digit_zero = 48

-- a space or a tab
abbrev pub is_blank : ℕ → Bool
is_blank b = b == space || b == tab

-- a byte onto the first of these pieces
abbrev pub onto_first : ℕ → List (List ℕ) → List (List ℕ)
onto_first b [] = (b ∷ []) ∷ []
onto_first b (piece ∷ pieces) = (b ∷ piece) ∷ pieces

-- what stands before each line feed, and what stands behind the last one, if anything does
abbrev pub pieces_of : List ℕ → List (List ℕ)
pieces_of [] = []
pieces_of (b ∷ bs) = if b == line_feed then [] ∷ pieces_of bs else onto_first b (pieces_of bs)

-- without a carriage return at its end
abbrev pub without_return : List ℕ → List ℕ
without_return [] = []
without_return (b ∷ []) = if b == carriage_return then [] else b ∷ []
without_return (b ∷ c ∷ bs) = b ∷ without_return (c ∷ bs)

-- the lines of a text
abbrev pub lines_of : List ℕ → List (List ℕ)
lines_of text = map without_return (pieces_of text)

-- a word goes on behind its byte where the next byte is there and is no blank
abbrev pub goes_on : List ℕ → Bool
goes_on [] = false
goes_on (b ∷ bs) = not (is_blank b)

-- the words of a line, with one or more blanks between them
abbrev pub words_of : List ℕ → List (List ℕ)
words_of [] = []
words_of (b ∷ bs) = if is_blank b then words_of bs else (if goes_on bs then onto_first b (words_of bs) else (b ∷ []) ∷ words_of bs)

-- a line from its first byte on that is no blank
abbrev pub from_word : List ℕ → List ℕ
from_word [] = []
from_word (b ∷ bs) = if is_blank b then from_word bs else b ∷ bs

-- a byte onto a line, which is left off where it is a blank and the line is empty
abbrev pub onto_word : ℕ → List ℕ → List ℕ
onto_word b [] = if is_blank b then [] else b ∷ []
onto_word b (c ∷ cs) = b ∷ c ∷ cs

-- a line up to its last byte that is no blank
abbrev pub to_word : List ℕ → List ℕ
to_word [] = []
to_word (b ∷ bs) = onto_word b (to_word bs)

-- a line without the blanks at its ends
abbrev pub trimmed : List ℕ → List ℕ
trimmed line = to_word (from_word line)

-- a line without its blanks
abbrev pub without_blanks : List ℕ → List ℕ
without_blanks line = filter (λ b. not (is_blank b)) line
