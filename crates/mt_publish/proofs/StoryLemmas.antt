-- Stories of one base, and what they tell of entries.
use Rattle.std.proofs.Common.{arith, ◌≡◌, ℕ, zero, suc, List, [], ◌∷◌, ◌++◌, map, refl, sym, ap, ◌∙◌}
use mathlib.Core.List.{IsPrefix, map-append}
use Rattle.mt_publish.specs.declared.role.Item.{Item}
use Rattle.mt_publish.specs.declared.role.Item.TheVariants.{Base, Entry}
use Rattle.mt_publish.specs.declared.role.Role.{Role}
use Rattle.mt_publish.specs.declared.role.Role.TheVariants.{Seated, Noted}
use Rattle.mt_publish.specs.Stories.{story, story_entries}
use Rattle.mt_publish.specs.Prefixes.{AllPrefixes}
use Rattle.mt_publish.specs.Rule.{list_of, learnt_of}

module _ {E : Type 0} where
  entries_map : (B : Type 0) (xs : List E) → story_entries {B = B} (map Entry xs) ≡ xs
  entries_map B [] = refl
  entries_map B (x ∷ xs) = ap (λ l. x ∷ l) (entries_map B xs)

module _ {B E : Type 0} where
  pub story_more : (b : B) (xs : List E) (e : E) → story b (xs ++ e ∷ []) ≡ story b xs ++ Entry e ∷ []
  story_more b xs e = λ k. Base b ∷ map-append Entry xs (e ∷ []) k

  pub story_longer : (b b' : B) (xs ys : List E) (e : E) → b ≡ b' → ys ≡ xs ++ e ∷ [] → IsPrefix (story b xs) (story b' ys)
  story_longer b b' xs ys e same is = (Entry e ∷ [], sym (story_more b xs e) ∙ (λ k. story (same k) (sym is k)))

  -- a story that begins with a base is of that base
  pub one_base : (b b' : B) (xs ys : List E) → IsPrefix (story b xs) (story b' ys) → b ≡ b'
  one_base b b' xs ys p = cc p.1

  pub entries_back : (b : B) (xs : List E) → story_entries (story b xs) ≡ xs
  entries_back b xs = entries_map B xs

  entries_append : (x y : List (Item B E)) → story_entries (x ++ y) ≡ story_entries x ++ story_entries y
  entries_append [] y = refl
  entries_append (Base b ∷ x) y = entries_append x y
  entries_append (Entry e ∷ x) y = ap (λ l. e ∷ l) (entries_append x y)

  pub entries_begin : (x y : List (Item B E)) → IsPrefix x y → IsPrefix (story_entries x) (story_entries y)
  entries_begin x y p = (story_entries p.0, sym (entries_append x p.0) ∙ ap story_entries p.1)

  pub all_entries_begin : (y : List (Item B E)) (ls : List (List (Item B E))) → AllPrefixes y ls → AllPrefixes (story_entries y) (map story_entries ls)
  all_entries_begin y [] h k d q = absurd (omega (arith, q))
  all_entries_begin y (m ∷ ls) h zero d q = entries_begin m y (h zero m (omega arith))
  all_entries_begin y (m ∷ ls) h (suc k) d q = all_entries_begin y ls (λ i c l. h (suc i) c (omega (arith, l))) k d (omega (arith, q))

module _ {B E S : Type 0} (m : Role (Item B E) × List S) (b : B) (xs : List E) where
  pub noted_entries : m ≡ (Noted (story b xs), []) → story_entries (list_of m.0) ≡ xs
  noted_entries e = (λ k. story_entries (list_of (e k).0)) ∙ entries_back b xs

module _ {B E S : Type 0} (m : Role (Item B E) × List S) (i : ℕ) (b : B) (xs : List E) (ls : List (List (Item B E))) where
  pub seated_entries : m ≡ (Seated i (story b xs) ls, []) → story_entries (list_of m.0) ≡ xs
  seated_entries e = (λ k. story_entries (list_of (e k).0)) ∙ entries_back b xs

  pub seated_learnt : m ≡ (Seated i (story b xs) ls, []) → learnt_of m.0 ≡ ls
  seated_learnt e = λ k. learnt_of (e k).0

  pub seated : m ≡ (Seated i (story b xs) ls, []) → m ≡ (Seated i (story b (story_entries (list_of m.0))) (learnt_of m.0), [])
  seated e = e ∙ (λ k. (Seated i (story b (sym (seated_entries e) k)) (sym (seated_learnt e) k), []))
