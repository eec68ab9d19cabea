-- The source line.
use Rattle.std.proofs.Common.{◌≡◌, ℕ, List, [], ◌∷◌, ◌++◌, codes, refl, sym, ◌∙◌}
use Rattle.mt_import.specs.Lines.{from_word, trimmed}
use Rattle.mt_import.specs.Sources.{IsSourceLine, IsSource}
use Rattle.mt_import.specs.Texts.{HasBadSource}

-- what stands behind the word is known by the line
pub same_rest : (line note rest : List ℕ) (is : IsSourceLine line note) → from_word line ≡ codes "source" ++ rest → is.rest ≡ rest
same_rest line note rest is h = let e : codes "source" ++ is.rest ≡ codes "source" ++ rest = sym is.line_is ∙ h in cc

-- and so is the note
pub same_note : (line note rest : List ℕ) (is : IsSourceLine line note) → from_word line ≡ codes "source" ++ rest → note ≡ trimmed rest
same_note line note rest is h = let e : is.rest ≡ rest = same_rest line note rest is h in let n = is.note_is in cc

-- two readings of the lines behind the header are one
pub record SameSource (source other : List (List ℕ)) (note more : List ℕ) (behind rest : List (List ℕ)) : Type 0 where
  pub source_is : source ≡ other
  pub note_is : note ≡ more
  pub behind_is : behind ≡ rest

pub same_source : (source other : List (List ℕ)) (note more : List ℕ) (behind rest : List (List ℕ)) → IsSource source note behind → IsSource other more rest → source ++ behind ≡ other ++ rest
    → SameSource source other note more behind rest
same_source [] [] note more behind rest a b e = record { source_is = refl; note_is = a.0 ∙ sym b.0; behind_is = e }
same_source [] (line ∷ []) note more [] rest a b e = absurd (cc)
same_source [] (line ∷ []) note more (x ∷ xs) rest a b e = let same : line ≡ x = cc in absurd (a.1 (b.rest, let l = b.line_is in cc))
same_source (line ∷ []) [] note more behind [] a b e = absurd (cc)
same_source (line ∷ []) [] note more behind (x ∷ xs) a b e = let same : line ≡ x = cc in absurd (b.1 (a.rest, let l = a.line_is in cc))
same_source (line ∷ []) (other ∷ []) note more behind rest a b e =
    let first : line ≡ other = cc in
    record {
      source_is = cc;
      note_is = same_note line note b.rest a (let l = b.line_is in cc) ∙ sym b.note_is;
      behind_is = cc;
    }
same_source (line ∷ x ∷ xs) other note more behind rest a b e = absurd a
same_source [] (line ∷ x ∷ xs) note more behind rest a b e = absurd b
same_source (y ∷ []) (line ∷ x ∷ xs) note more behind rest a b e = absurd b

-- a line that begins as a source line and is none is not passed
pub no_bad_source : (source : List (List ℕ)) (note : List ℕ) (behind : List (List ℕ)) → IsSource source note behind → HasBadSource (source ++ behind) → ⊥
no_bad_source [] note [] is bad = bad
no_bad_source [] note (x ∷ xs) is bad = is.1 bad.0
no_bad_source (line ∷ []) note behind is bad = bad.1 note is
no_bad_source (line ∷ x ∷ xs) note behind is bad = is
