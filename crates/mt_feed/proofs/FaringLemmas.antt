-- Feeds fare over one text after another.
use Rattle.std.proofs.Common.{◌≡◌, ◌≢◌, ℕ, ◌+◌, List, [], ◌++◌, length, take, Option, Some, None, Result, Ok, Err, refl, sym, ap, ◌∙◌, arith, append-nil, append_assoc, length-append, subst, ⊎_elim}
use Rattle.std.proofs.lemmas.Bool.{cases_eq}
use Rattle.std.proofs.lemmas.List.{take-append-le, take_at}
use Rattle.std.proofs.Math.Seq.{take-append-add}
use Rattle.std.specs.Prelude.{OnErr}
use Rattle.mt_io.specs.Streams.{Appends}
use Rattle.mt_feed.specs.Faring.{IsTold, IsToldPrefix, Fares}

-- ---- one feed's texts

told_none : (a : Option (List ℕ)) → IsTold a a []
told_none None = tt
told_none (Some xs) = sym (append-nil xs)

told_ok : (T E : Type 0) (a b : Option (List ℕ)) (x : T) (xs : List ℕ) → Appends {T = T} {E = E} a b (Ok x) xs → IsTold a b xs
told_ok T E None None x xs p = tt
told_ok T E None (Some b) x xs p = absurd p
told_ok T E (Some a) None x xs p = tt
told_ok T E (Some a) (Some b) x xs p = p

told_err : (T E : Type 0) (a b : Option (List ℕ)) (x : E) (xs : List ℕ) → Appends {T = T} {E = E} a b (Err x) xs → IsToldPrefix a b xs
told_err T E None None x xs p = tt
told_err T E None (Some b) x xs p = absurd p
told_err T E (Some a) None x xs p = tt
told_err T E (Some a) (Some b) x xs p = p

told_prefix : (a b : Option (List ℕ)) (xs rest : List ℕ) → IsTold a b xs → IsToldPrefix a b (xs ++ rest)
told_prefix None None xs rest p = tt
told_prefix None (Some b) xs rest p = absurd p
told_prefix (Some a) None xs rest p = tt
told_prefix (Some a) (Some b) xs rest p = (
  length xs,
  omega (arith, length-append xs rest),
  p ∙ ap (λ z. a ++ z) (sym (take_at xs rest (length xs) refl)),
)

told_whole : (a b : Option (List ℕ)) (xs : List ℕ) → IsTold a b xs → IsToldPrefix a b xs
told_whole a b xs p = subst (λ t. IsToldPrefix a b t) (append-nil xs) (told_prefix a b xs [] p)

told_both : (a b c : Option (List ℕ)) (xs ys : List ℕ) → IsTold a b xs → IsTold b c ys → IsTold a c (xs ++ ys)
told_both None None None xs ys p q = tt
told_both None None (Some c) xs ys p q = absurd q
told_both None (Some b) c xs ys p q = absurd p
told_both (Some a) None None xs ys p q = tt
told_both (Some a) None (Some c) xs ys p q = absurd q
told_both (Some a) (Some b) None xs ys p q = tt
told_both (Some a) (Some b) (Some c) xs ys p q = q ∙ ap (λ z. z ++ ys) p ∙ append_assoc a xs ys

told_then_prefix : (a b c : Option (List ℕ)) (xs ys : List ℕ) → IsTold a b xs → IsToldPrefix b c ys → IsToldPrefix a c (xs ++ ys)
told_then_prefix None None None xs ys p q = tt
told_then_prefix None None (Some c) xs ys p q = absurd q
told_then_prefix None (Some b) c xs ys p q = absurd p
told_then_prefix (Some a) None None xs ys p q = tt
told_then_prefix (Some a) None (Some c) xs ys p q = absurd q
told_then_prefix (Some a) (Some b) None xs ys p q = tt
told_then_prefix (Some a) (Some b) (Some c) xs ys p q = (
  length xs + q.0,
  omega (arith, q.1, length-append xs ys),
  q.2 ∙ ap (λ z. z ++ take q.0 ys) p ∙ append_assoc a xs (take q.0 ys) ∙ ap (λ z. a ++ z) (sym (take-append-add xs ys q.0)),
)

prefix_more : (a b : Option (List ℕ)) (xs ys : List ℕ) → IsToldPrefix a b xs → IsToldPrefix a b (xs ++ ys)
prefix_more None None xs ys p = tt
prefix_more None (Some b) xs ys p = absurd p
prefix_more (Some a) None xs ys p = tt
prefix_more (Some a) (Some b) xs ys p = (
  p.0,
  omega (arith, p.1, length-append xs ys),
  p.2 ∙ ap (λ z. a ++ z) (sym (take-append-le p.0 xs ys p.1)),
)

-- ---- one feed

module _ {F : Type 0} (told : F → Option (List ℕ)) (faults : F → ℕ) where
  -- nothing to tell
  pub fares_none : (feed : F) → Fares told faults [] feed feed
  fares_none feed = record { failed = λ h. refl; whole = λ z. told_none (told feed); prefix = told_whole (told feed) (told feed) [] (told_none (told feed)) }

  -- one text, then another
  pub fares_both : (a b c : F) (xs ys : List ℕ) → Fares told faults xs a b → Fares told faults ys b c → Fares told faults (xs ++ ys) a c
  fares_both a b c xs ys p q = record {
    failed = λ h. q.failed (λ z. h (ap faults (sym (p.failed h)) ∙ z)) ∙ p.failed h;
    whole = λ z. told_both (told a) (told b) (told c) xs ys (p.whole (before z)) (q.whole z);
    prefix = ⊎_elim
        (λ (z : faults b ≡ 0). told_then_prefix (told a) (told b) (told c) xs ys (p.whole z) q.prefix)
        (λ (h : faults b ≢ 0). subst (λ (x : F). IsToldPrefix (told a) (told x) (xs ++ ys)) (sym (q.failed h)) (prefix_more (told a) (told b) xs ys p.prefix))
        (cases_eq (faults b) 0);
  }
    where
      before : faults c ≡ 0 → faults b ≡ 0
      before z = ⊎_elim (λ (y : faults b ≡ 0). y) (λ (h : faults b ≢ 0). absurd (h (ap faults (sym (q.failed h)) ∙ z))) (cases_eq (faults b) 0)

  -- it had failed
  pub fares_failed : (feed : F) (text : List ℕ) → faults feed ≢ 0 → Fares told faults text feed feed
  fares_failed feed text h = record { failed = λ k. refl; whole = λ z. absurd (h z); prefix = told_prefix (told feed) (told feed) [] text (told_none (told feed)) }

  -- it had not failed, and was told the text
  pub fares_told : (T E : Type 0) (old new : F) (r : Result T E) (text : List ℕ) → faults old ≡ 0 → Appends (told old) (told new) r text → OnErr r (faults new ≢ 0) → Fares told faults text old new
  fares_told T E old new (Ok x) text z a f =
      let all : IsTold (told old) (told new) text = told_ok T E (told old) (told new) x text a in
      record { failed = λ h. absurd (h z); whole = λ k. all; prefix = told_whole (told old) (told new) text all }
  fares_told T E old new (Err x) text z a f = record {
    failed = λ h. absurd (h z);
    whole = λ k. absurd (f k);
    prefix = told_err T E (told old) (told new) x text a;
  }
