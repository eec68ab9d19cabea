-- What a search for a dependent choice says, which decides each choice by one insertion more.
use Rattle.std.specs.Prelude.{ℕ, zero, suc, ◌+◌, ◌-◌, ◌*◌, Bool, true, false, Option, Some, None, min, List, ◌∷◌, ◌++◌}
use Rattle.mt_linear.specs.declared.order.Order.{Order}
use Rattle.mt_linear.specs.Linear.{Independent}
use Rattle.mt_system.specs.Counts.{sum_below, number_of_choices}
use Rattle.mt_system.specs.Rows.{rows_by}
use Rattle.mt_strength.specs.Searches.{IsTaken, AllIndependent, IsFound, IsFirstByList, AreIndependent, IsFirstBySize}
use Rattle.mt_strength.specs.declared.verdicts.Verdict.{Verdict}
use Rattle.mt_strength.specs.declared.verdicts.Verdict.TheVariants.{Holds, Dependent}

-- the rows from row j of coordinate i on, both counted from 0
abbrev pub rows_from : (ℕ → ℕ → List ℕ) → ℕ → ℕ → ℕ → ℕ → List ℕ
rows_from M i j zero b = M i (j + b)
rows_from M i j (suc a) b = M (i + suc a) b

-- the vectors so far, and the rows of a choice of those from row j of coordinate i on
abbrev pub rows_after : List (List ℕ) → (ℕ → ℕ → List ℕ) → ℕ → ℕ → List ℕ → List (List ℕ)
rows_after V M i j c = V ++ rows_by (rows_from M i j) c

-- the number of choices of at most n rows, `first` of the first coordinate and `each` of each other
abbrev pub number_taken : ℕ → ℕ → ℕ → ℕ → ℕ
number_taken first others each n = sum_below (min first n + 1) (λ d. number_of_choices others each (n - d))

-- true: all are independent; false: these sizes are the first by list that are not
abbrev pub IsSearched : Order → (List ℕ → List (List ℕ)) → ℕ → ℕ → ℕ → ℕ → List ℕ → Bool → Type 0
IsSearched o R first others each n sizes true = AllIndependent o R first others each n
IsSearched o R first others each n sizes false = IsFound o R first others each n sizes

-- the same of the choices without a row of the first coordinate
abbrev pub IsSearchedBehind : Order → (List ℕ → List (List ℕ)) → ℕ → ℕ → ℕ → ℕ → List ℕ → Bool → Type 0
IsSearchedBehind o R first others each n sizes true = (cs : List ℕ) → IsTaken first others each n 0 cs → Independent o (R (0 ∷ cs))
IsSearchedBehind o R first others each n sizes false = IsFound o R first others each n sizes

-- none: all choices of at most n rows are independent; else this is the first by list that is not
abbrev pub IsSearchedWhole : Order → ℕ → ℕ → ℕ → (List ℕ → List (List ℕ)) → Option (List ℕ) → Type 0
IsSearchedWhole o s depth n R None = AreIndependent o s depth n R
IsSearchedWhole o s depth n R (Some c) = IsFirstByList o s depth n R c

-- the same, by size and then by list
abbrev pub IsLeastOf : Order → ℕ → ℕ → ℕ → (List ℕ → List (List ℕ)) → Option (List ℕ) → Type 0
IsLeastOf o s depth n R None = AreIndependent o s depth n R
IsLeastOf o s depth n R (Some c) = IsFirstBySize o s depth n R c

-- one search of `number` choices where nothing is found, else n + 1 at most
abbrev pub most_search_steps : ℕ → ℕ → Option (List ℕ) → ℕ
most_search_steps n number None = number - 1
most_search_steps n number (Some c) = (n + 1) * (number - 1)

-- the most steps of a check of `number` choices of at most k rows
abbrev pub most_steps : ℕ → ℕ → Verdict → ℕ
most_steps k number Holds = number - 1
most_steps k number (Dependent c coefficients) = (k + 1) * number
