-- What is outstanding, what is told where nothing is accepted, and the happenings of an import.
use Rattle.std.proofs.Common.{◌≡◌, ◌≢◌, ◌⊎◌, ℕ, ◌+◌, ◌-◌, ◌<◌, List, [], ◌∷◌, ◌++◌, length, Option, Some, None, Result, Ok, Err, IfOk, MatchResult, inl, inr, refl, sym, ap, ◌∙◌, subst, arith, append-nil}
use Rattle.std.specs.Prelude.{IfSome, IfNone, OnOk, OnErr}
use Rattle.std.specs.List.{AllZip}
use Rattle.std.proofs.lemmas.List.{length_push}
use Rattle.mt_feed.specs.Faring.{Fares, IsTold, IsToldPrefix}
use Rattle.mt_cells.specs.declared.bounds.Bounds.{Bounds}
use Rattle.mt_cells.specs.declared.rules.RuleSet.{RuleSet}
use Rattle.mt_derive.specs.declared.events.Event.{Event}
use Rattle.mt_derive.specs.Events.{Follows}
use Rattle.mt_derive.specs.Places.{IsAt}
use Rattle.mt_derive.proofs.PlaceLemmas.{place_same, place_last}
use Rattle.mt_publish.specs.States.{Publication, FrontState, IsFrontOf}
use Rattle.mt_service.specs.declared.outcomes.Outcome.{Outcome}
use Rattle.mt_service.specs.declared.outcomes.Outcome.TheVariants as outcome
use Rattle.mt_service.specs.Steps.{IsStep}
use Rattle.mt_service.specs.Records.{ArePut}
use Rattle.mt_service.specs.Telling.{AreTold, AreLines}
use Rattle.mt_server.specs.Desks.{IsBehind, IsUnfinished, LeadTo, LeadPartly, import_of, LookPartly, look_happenings}
use Rattle.mt_server.proofs.InterleavingLemmas.{step_behind}

-- ---- the outstanding event

outstanding : (b : Bounds) (H A : List Event) (n : ℕ) (x : Event) → IsBehind b H A → length H < length A → n ≡ length A → IsAt A (n - 1) x
    → Follows b H x × (A ≡ H ++ x ∷ [])
outstanding b H A n x (inl same) low n_is at = let l = ap length same in absurd (omega (arith, low, l))
outstanding b H A n x (inr (e, follows, is)) low n_is at =
    let l : length A ≡ length H + 1 = ap length is ∙ length_push H e in
    let place : n - 1 ≡ length H = omega (arith, l, n_is) in
    let here : IsAt A (length H) e = subst (λ (L : List Event). IsAt L (length H) e) (sym is) (place_last H e) in
    let same : e ≡ x = place_same A (length H) e x here (subst (λ (k : ℕ). IsAt A k x) place at) in
    (subst (Follows b H) same follows, is ∙ ap (λ y. H ++ y ∷ []) same)

-- the outstanding event, as the service and a front of the publisher tell it
pub outstanding_event : (b : Bounds) (H A front T L : List Event) (len n : ℕ) (x : Event) → IsBehind b H A → front ≡ H → len ≡ length front → n ≡ length T → T ≡ A → L ≡ A
    → len < n → IsAt L (n - 1) x → Follows b H x × (A ≡ H ++ x ∷ [])
outstanding_event b H A front T L len n x behind front_is len_is n_is table_is list_is below at =
    let l : len ≡ length H = len_is ∙ ap length front_is in
    let m : n ≡ length A = n_is ∙ ap length table_is in
    outstanding b H A n x behind (omega (arith, l, m, below)) m (subst (λ (L : List Event). IsAt L (n - 1) x) list_is at)

-- a publish of it
module _ {T R : Type 0} (b : Bounds) (P H A N : List Event) (x : Event) (is : A ≡ H ++ x ∷ []) (same : P ≡ H) where
  pub behind_after : (r : Result T R) → IsBehind b H A → MatchResult r (λ _. N ≡ P ++ x ∷ []) (λ _. N ≡ P) → IsBehind b N A
  behind_after (Ok _) behind n = inl (is ∙ (ap (λ l. l ++ x ∷ []) (sym same) ∙ sym n))
  behind_after (Err _) behind n = subst (λ (l : List Event). IsBehind b l A) (sym (n ∙ same)) behind

  pub published_after : (r : Result T R) (A' H' : List Event) → A ≡ A' → H ≡ H' → MatchResult r (λ _. N ≡ P ++ x ∷ []) (λ _. N ≡ P)
      → MatchResult r (λ _. N ≡ A') (λ _. N ≡ H')
  published_after (Ok _) A' H' a h n = n ∙ (ap (λ l. l ++ x ∷ []) same ∙ (sym is ∙ a))
  published_after (Err _) A' H' a h n = n ∙ (same ∙ h)

pub front_after : {B R : Type 0} (P H A N A' : List Event) (x : Event) (one one' : Publication B) (r : Result (FrontState Event) R) → A ≡ H ++ x ∷ [] → P ≡ H → A ≡ A' → one ≡ one'
    → MatchResult r (λ _. N ≡ P ++ x ∷ []) (λ _. N ≡ P) → IfOk r (λ f. IsFrontOf one N f) → IfOk r (IsFrontOf one' A')
front_after P H A N A' x one one' (Ok f) is same a o n front = (front.0 ∙ ap (λ p. p.identity) o, front.1 ∙ (n ∙ (ap (λ l. l ++ x ∷ []) same ∙ (sym is ∙ a))))
front_after P H A N A' x one one' (Err e) is same a o n front = tt

-- ---- what is told and put, read over equal lists

pub told_same : {F : Type 0} (told : F → Option (List ℕ)) (faults : F → ℕ) (b b' : Bounds) (rules rules' : RuleSet) (E E' M M' : List Event) (old new : List F)
    → b ≡ b' → rules ≡ rules' → E ≡ E' → M ≡ M' → AreTold b rules told faults E M old new → AreTold b' rules' told faults E' M' old new
told_same told faults b b' rules rules' E E' M M' old new p q e m h =
    subst (λ (z : Bounds × (RuleSet × (List Event × List Event))). AreTold z.0 z.1.0 told faults z.1.1.0 z.1.1.1 old new) (λ i. (p i, (q i, (e i, m i)))) h

pub put_same : (r r' s s' : Option (List (List ℕ))) (E E' M M' : List Event) → r ≡ r' → s ≡ s' → E ≡ E' → M ≡ M' → ArePut r s E M → ArePut r' s' E' M'
put_same r r' s s' E E' M M' p q e m h =
    subst (λ (z : Option (List (List ℕ)) × (Option (List (List ℕ)) × (List Event × List Event))). ArePut z.0 z.1.0 z.1.1.0 z.1.1.1) (λ i. (p i, (q i, (e i, m i)))) h

pub step_same : (b b' : Bounds) (rules rules' : RuleSet) (E E' M M' : List Event) (text : List ℕ) (o : Outcome) → b ≡ b' → rules ≡ rules' → E ≡ E' → M ≡ M'
    → IsStep b rules E text o M → IsStep b' rules' E' text o M'
step_same b b' rules rules' E E' M M' text o p q e m h =
    subst (λ (z : Bounds × (RuleSet × (List Event × List Event))). IsStep z.0 z.1.0 z.1.1.0 text o z.1.1.1) (λ i. (p i, (q i, (e i, m i)))) h

-- ---- where nothing is accepted

told_none : (t : Option (List ℕ)) → IsTold t t []
told_none None = tt
told_none (Some bytes) = sym (append-nil bytes)

prefix_none : (t : Option (List ℕ)) → IsToldPrefix t t []
prefix_none None = tt
prefix_none (Some bytes) = (0, omega arith, sym (append-nil bytes))

fare_none : {F : Type 0} (told : F → Option (List ℕ)) (faults : F → ℕ) (b : Bounds) (rules : RuleSet) (E : List Event) (feeds : List F)
    → AllZip (λ f g. (lines : List ℕ) × AreLines b rules E [] lines × Fares told faults lines f g) feeds feeds
fare_none told faults b rules E [] = tt
fare_none told faults b rules E (f ∷ feeds) =
    (([], refl, record { failed = λ h. refl; whole = λ h. told_none (told f); prefix = prefix_none (told f) }), fare_none told faults b rules E feeds)

pub tell_none : {F : Type 0} (told : F → Option (List ℕ)) (faults : F → ℕ) (b : Bounds) (rules : RuleSet) (E : List Event) (feeds : List F)
    → AreTold b rules told faults E E feeds feeds
tell_none told faults b rules E feeds =
    record { events = []; grown = sym (append-nil E); fare = fare_none told faults b rules E feeds; unchanged = λ h. refl }

-- ---- wanting memory

module _ (b : Bounds) (rules : RuleSet) (text : List ℕ) where
  -- what was outstanding was published, and then the text came to its outcome
  pub unfinished : (o : Outcome) (A H M H' : List Event) → H' ≡ A → IsStep b rules A text o M → IsUnfinished b rules text A H M H'
  unfinished o A H M H' same step = go (step_behind b rules A text o M step)
    where
      go : IsBehind b A M → IsUnfinished b rules text A H M H'
      go (inl kept) = inl (kept, inr same)
      go (inr (e, follows, is)) = inr (same, (e, is), (o, step))

  -- ---- happenings

  pub import_leads : (o : Outcome) (A H M H' : List Event) → H' ≡ M → IsStep b rules A text o M → LeadTo b rules (import_of text o M) A H M H'
  import_leads o A H M H' all step = λ shown fronts. ((tt, ((refl, step), (tt, (tt, tt)))), refl, sym all)

  pub part_leads : (A H M H' : List Event) → IsUnfinished b rules text A H M H' → LeadPartly b rules text A H M H'
  part_leads A H M H' (inl (kept, inl same)) = (0, omega arith, (outcome.Memory, λ shown fronts. (tt, sym kept, sym same)))
  part_leads A H M H' (inl (kept, inr same)) = (1, omega arith, (outcome.Memory, λ shown fronts. ((tt, tt), sym kept, sym same)))
  part_leads A H M H' (inr (same, one, (o, step))) = (2, omega arith, (o, λ shown fronts. ((tt, ((refl, step), tt)), refl, sym same)))

  pub lead_some : {F : Type 0} (r : Option F) (o : Outcome) (A H M H' : List Event) (Q : F → Type 0) → IfSome r (λ f. Q f × (H' ≡ M))
      → IfSome r (λ _. (o ≢ outcome.Memory) × IsStep b rules A text o M) → IfSome r (λ _. LeadTo b rules (import_of text o M) A H M H')
  lead_some (Some f) o A H M H' Q front step = import_leads o A H M H' front.1 step.1
  lead_some None o A H M H' Q front step = tt

  pub lead_none : {F : Type 0} (r : Option F) (A H M H' : List Event) (Q : Type 0) → IfNone r (Q × IsUnfinished b rules text A H M H') → IfNone r (LeadPartly b rules text A H M H')
  lead_none (Some f) A H M H' Q memory = tt
  lead_none None A H M H' Q memory = part_leads A H M H' memory.1

-- ---- looks

module _ (b : Bounds) (rules : RuleSet) where
  pub look_leads : {T R : Type 0} (r : Result T R) (A H A' H' : List Event) → A' ≡ A → OnOk r (H' ≡ A) → OnOk r (LeadTo b rules look_happenings A H A' H')
  look_leads (Ok _) A H A' H' same all = λ shown fronts. ((tt, (tt, tt)), sym same, sym all)
  look_leads (Err _) A H A' H' same all = tt

  pub look_partly : {T R : Type 0} (r : Result T R) (A H A' H' : List Event) → A' ≡ A → OnErr r ((H' ≡ H) ⊎ (H' ≡ A)) → OnErr r (LookPartly b rules A H A' H')
  look_partly (Ok _) A H A' H' same part = tt
  look_partly (Err _) A H A' H' same (inl kept) = (0, omega arith, λ shown fronts. (tt, sym same, sym kept))
  look_partly (Err _) A H A' H' same (inr all) = (1, omega arith, λ shown fronts. ((tt, tt), sym same, sym all))
