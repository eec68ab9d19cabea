-- What holds of each state that happenings lead to.
use Rattle.std.proofs.Common.{◌≡◌, ◌⊎◌, ℕ, zero, suc, ◌+◌, ◌≤◌, ◌==◌, Bool, true, false, cond, List, [], ◌∷◌, ◌++◌, length, take, drop, take-append-drop, Contains, inl, inr, refl, sym, ap, ◌∙◌, subst, arith, append_assoc, append-nil, length-append}
use Rattle.std.proofs.lemmas.List.Elements.{All-nil, All-cons, All-head, All-tail, All-weaker}
use mathlib.Core.List.{IsPrefix}
use Rattle.mt_system.specs.declared.claims.Form.{Form}
use Rattle.mt_system.specs.declared.claims.Form.TheVariants.{Ooa, Net, Seq}
use Rattle.mt_system.specs.Rows.{Matrices}
use Rattle.mt_cells.specs.declared.bounds.Bounds.{Bounds}
use Rattle.mt_cells.specs.declared.rules.RuleSet.{RuleSet}
use Rattle.mt_cells.specs.Cells.{InBounds}
use Rattle.mt_derive.specs.declared.events.Event.{Event}
use Rattle.mt_derive.specs.declared.events.Event.TheVariants.{Import, Withdraw}
use Rattle.mt_derive.specs.Events.{Follows, AllFollow}
use Rattle.mt_derive.specs.Imports.{cell_by}
use Rattle.mt_derive.proofs.EventLemmas.{follow_push}
use Rattle.mt_publish.specs.Prefixes.{AllPrefixes, longest}
use Rattle.mt_service.specs.declared.outcomes.Outcome.{Outcome}
use Rattle.mt_service.specs.declared.outcomes.Outcome.TheVariants as outcome
use Rattle.mt_service.specs.Steps.{IsStep, IsAccepted}
use Rattle.mt_server.specs.Interleavings.{Happening, accept, publish, view, front, learn, State, opening, also_shown, next_state, state_after, outcomes_of, MayCome, AllMayCome, AreSteps, AllAreOneHistory}
use Rattle.mt_server.specs.Desks.{IsBehind}
use Rattle.mt_server.proofs.OnceLemmas.{all_once}

-- ---- prefixes

module _ {X : Type 0} where
  prefix_self : (xs : List X) → IsPrefix xs xs
  prefix_self xs = ([], append-nil xs)

  prefix_trans : (xs ys zs : List X) → IsPrefix xs ys → IsPrefix ys zs → IsPrefix xs zs
  prefix_trans xs ys zs p q = (p.0 ++ q.0, sym (append_assoc xs p.0 q.0) ∙ (ap (λ w. w ++ q.0) p.1 ∙ q.1))

  prefixes_further : (xs ys : List X) (ls : List (List X)) → IsPrefix xs ys → AllPrefixes xs ls → AllPrefixes ys ls
  prefixes_further xs ys ls p all = All-weaker (λ l. IsPrefix l xs) (λ l. IsPrefix l ys) (λ l q. prefix_trans l xs ys q p) ls all

  -- a short prefix begins the first n
  first_begins : (l t : List X) (n : ℕ) → length l ≤ n → IsPrefix l (take n (l ++ t))
  first_begins [] t n few = (take n t, refl)
  first_begins (x ∷ l) t zero few = absurd (omega arith)
  first_begins (x ∷ l) t (suc n) few = let p = first_begins l t n (omega arith) in (p.0, ap (λ w. x ∷ w) p.1)

  prefix_take : (l xs : List X) (n : ℕ) → IsPrefix l xs → length l ≤ n → IsPrefix l (take n xs)
  prefix_take l xs n p few = subst (λ (ys : List X). IsPrefix l (take n ys)) p.1 (first_begins l p.0 n few)

  prefixes_take : (xs : List X) (n : ℕ) (ls : List (List X)) → AllPrefixes xs ls → longest ls ≤ n → AllPrefixes (take n xs) ls
  prefixes_take xs n [] all few = All-nil (λ l. IsPrefix l (take n xs))
  prefixes_take xs n (l ∷ ls) all few = All-cons (λ l. IsPrefix l (take n xs)) l ls
      (prefix_take l xs n (All-head (λ l. IsPrefix l xs) l ls all) (omega arith))
      (prefixes_take xs n ls (All-tail (λ l. IsPrefix l xs) l ls all) (omega arith))

  -- the list is xs, or has one more at the end
  abbrev IsNext : List X → List X → Type 0
  IsNext xs ys = (ys ≡ xs) ⊎ ((x : X) × (ys ≡ xs ++ x ∷ []))

  next_begins : (xs ys : List X) → IsNext xs ys → IsPrefix xs ys
  next_begins xs ys (inl e) = ([], append-nil xs ∙ sym e)
  next_begins xs ys (inr t) = (t.0 ∷ [], sym t.1)

  next_length : (xs ys : List X) → IsNext xs ys → length ys ≤ length xs + 1
  next_length xs ys (inl e) = let l = ap length e in omega (arith, l)
  next_length xs ys (inr t) = let l = ap length t.1 in omega (arith, l, length-append xs (t.0 ∷ []))

-- ---- steps

cell_inside : (b : Bounds) (f : Form) (a : Matrices) → (1 ≤ a.columns) × (a.columns ≤ b.m_max) × (1 ≤ a.coordinates) × (a.coordinates ≤ b.s_max) → (1 ≤ a.depth) × (a.depth ≤ a.columns)
    → InBounds b (cell_by f a)
cell_inside b Ooa a (low, high, from, to) depth = (low, high, from, to, depth.0, depth.1)
cell_inside b Net a (low, high, from, to) depth = (low, high, from, to, depth.0, depth.1)
cell_inside b Seq a sizes depth = sizes

-- the event of an accepted text may follow
accepted_follows : (b : Bounds) (E : List Event) (text : List ℕ) (e : Event) → IsAccepted b E text e → Follows b E e
accepted_follows b E text (Import c) (new, holds) =
    let within = new.reads.0 in
    let header = within.text_of.begins.header.header in
    (new.room, cell_inside b c.form c.system (header.columns_from, within.columns, header.coordinates_from, within.coordinates) (header.depth_from, header.depth_to), new.named)
accepted_follows b E text (Withdraw n) (name, to_withdraw, live) = live

module _ (b : Bounds) (rules : RuleSet) where
  -- a step leaves the list, or appends an event that may follow
  pub step_behind : (E : List Event) (text : List ℕ) (o : Outcome) (M : List Event) → IsStep b rules E text o M → IsBehind b E M
  step_behind E text (outcome.Accepted n name raised tried) M s = inr (Import s.0, accepted_follows b E text (Import s.0) s.1, s.2.list)
  step_behind E text (outcome.Withdrawn n name lowered tried) M s = inr (Withdraw n, s.1, s.2.list)
  step_behind E text outcome.KeeperFault M s = inl s.0
  step_behind E text outcome.Memory M s = inl s
  step_behind E text (outcome.Form refused) M s = inl s.0
  step_behind E text (outcome.NoImport name) M s = inl s.0
  step_behind E text (outcome.AlreadyWithdrawn n name) M s = inl s.0
  step_behind E text (outcome.Range name number limit) M s = inl s.0
  step_behind E text (outcome.TooManyChoices count) M s = inl s.0
  step_behind E text (outcome.Already n name) M s = inl s.0
  step_behind E text (outcome.IsWithdrawn n name) M s = inl s.0
  step_behind E text (outcome.NameTaken n name) M s = inl s.0
  step_behind E text outcome.Full M s = inl s.0
  step_behind E text (outcome.Dependent form part choice coefficients) M s = inl s.0

  behind_next : (E M : List Event) → IsBehind b E M → IsNext E M
  behind_next E M (inl same) = inl same
  behind_next E M (inr (e, follows, is)) = inr (e, is)

  behind_follow : (E M : List Event) → AllFollow b E → IsBehind b E M → AllFollow b M
  behind_follow E M all (inl same) = subst (AllFollow b) (sym same) all
  behind_follow E M all (inr (e, follows, is)) = subst (AllFollow b) (sym is) (follow_push b E e all follows)

  -- ---- states

  record IsSound (s : State) : Type 0 where
    follow : AllFollow b s.accepted
    next : IsNext s.published s.accepted
    shown : (r : ℕ) → AllPrefixes s.published (s.shown r)
    fronts : AllPrefixes s.published s.fronts

  opening_sound : (E : List Event) → AllFollow b E → IsSound (opening E)
  opening_sound E all = record { follow = all; next = inl refl; shown = λ r. All-nil (λ l. IsPrefix l E); fronts = All-nil (λ l. IsPrefix l E) }

  also_prefixes : (xs : List Event) (shown : ℕ → List (List Event)) (reader : ℕ) (list : List Event) → IsPrefix list xs → ((r : ℕ) → AllPrefixes xs (shown r))
      → (r : ℕ) → AllPrefixes xs (also_shown shown reader list r)
  also_prefixes xs shown reader list p all r = go (r == reader)
    where
      go : (t : Bool) → AllPrefixes xs (cond t (list ∷ shown r) (shown r))
      go true = All-cons (λ l. IsPrefix l xs) list (shown r) p (all r)
      go false = all r

  contained : (xs : List Event) (ls : List (List Event)) (l : List Event) → AllPrefixes xs ls → Contains ls l → IsPrefix l xs
  contained xs ls l all has = subst (λ (k : List Event). IsPrefix k xs) has.2 (all has.0 _ has.1)

  next_sound : (s : State) (h : Happening) → IsSound s → MayCome b rules s h → IsSound (next_state s h)
  next_sound s (accept text outcome list) k may =
      let behind : IsBehind b s.accepted list = step_behind s.accepted text outcome list may.1 in
      record {
        follow = behind_follow s.accepted list k.follow behind;
        next = subst (λ (xs : List Event). IsNext xs list) may.0 (behind_next s.accepted list behind);
        shown = k.shown;
        fronts = k.fronts;
      }
  next_sound s publish k may =
      let p = next_begins s.published s.accepted k.next in
      record {
        follow = k.follow;
        next = inl refl;
        shown = λ r. prefixes_further s.published s.accepted (s.shown r) p (k.shown r);
        fronts = prefixes_further s.published s.accepted s.fronts p k.fronts;
      }
  next_sound s (view reader n) k may = record {
    follow = k.follow;
    next = k.next;
    shown = also_prefixes s.published s.shown reader (take n s.published) (drop n s.published, take-append-drop n s.published) k.shown;
    fronts = k.fronts;
  }
  next_sound s front k may = record {
    follow = k.follow;
    next = k.next;
    shown = k.shown;
    fronts = All-cons (λ l. IsPrefix l s.published) s.published s.fronts (prefix_self s.published) k.fronts;
  }
  next_sound s (learn reader list) k may = record {
    follow = k.follow;
    next = k.next;
    shown = also_prefixes s.published s.shown reader list (contained s.published s.fronts list k.fronts may) k.shown;
    fronts = k.fronts;
  }

  -- the published list begins that of the next state
  next_published : (s : State) (h : Happening) → IsSound s → IsPrefix s.published (next_state s h).published
  next_published s (accept text outcome list) k = prefix_self s.published
  next_published s publish k = next_begins s.published s.accepted k.next
  next_published s (view reader n) k = prefix_self s.published
  next_published s front k = prefix_self s.published
  next_published s (learn reader list) k = prefix_self s.published

  after_sound : (s : State) (hs : List Happening) → IsSound s → AllMayCome b rules s hs → IsSound (state_after s hs)
  after_sound s [] k may = k
  after_sound s (h ∷ hs) k may = after_sound (next_state s h) hs (next_sound s h k may.0) may.1

  after_published : (s : State) (hs : List Happening) → IsSound s → AllMayCome b rules s hs → IsPrefix s.published (state_after s hs).published
  after_published s [] k may = prefix_self s.published
  after_published s (h ∷ hs) k may =
      let next : State = next_state s h in
      prefix_trans s.published next.published (state_after next hs).published (next_published s h k) (after_published next hs (next_sound s h k may.0) may.1)

  after_steps : (s : State) (hs : List Happening) → AllMayCome b rules s hs → AreSteps b rules s.accepted (outcomes_of hs) (state_after s hs).accepted
  after_steps s [] may = refl
  after_steps s (accept text outcome list ∷ hs) may = (list, may.0.1, after_steps (next_state s (accept text outcome list)) hs may.1)
  after_steps s (publish ∷ hs) may = after_steps (next_state s publish) hs may.1
  after_steps s (view reader n ∷ hs) may = after_steps (next_state s (view reader n)) hs may.1
  after_steps s (front ∷ hs) may = after_steps (next_state s front) hs may.1
  after_steps s (learn reader list ∷ hs) may = after_steps (next_state s (learn reader list)) hs may.1

  -- ---- happenings in two parts

  after_parts : (s : State) (hs js : List Happening) → state_after s (hs ++ js) ≡ state_after (state_after s hs) js
  after_parts s [] js = refl
  after_parts s (h ∷ hs) js = after_parts (next_state s h) hs js

  may_parts : (s : State) (hs js : List Happening) → AllMayCome b rules s (hs ++ js) → AllMayCome b rules s hs × AllMayCome b rules (state_after s hs) js
  may_parts s [] js may = (tt, may)
  may_parts s (h ∷ hs) js may = let rest = may_parts (next_state s h) hs js may.1 in ((may.0, rest.0), rest.1)

  pub one_history_from : AllAreOneHistory b rules
  one_history_from E happenings all may = record {
    accepted = after_steps (opening E) happenings may;
    published = begins;
    behind = next_length end.published end.accepted sound.next;
    history = λ earlier later is.
        let parts = split earlier later is in
        let p = after_published (at earlier) later (sound_at earlier parts.0) parts.1 in
        let same : end ≡ state_after (at earlier) later = ap (state_after (opening E)) is ∙ after_parts (opening E) earlier later in
        prefix_trans (at earlier).published end.published end.accepted (subst (λ (z : State). IsPrefix (at earlier).published z.published) (sym same) p) begins;
    views = λ earlier later reader n is.
        let parts = split earlier (view reader n ∷ later) is in
        prefixes_take (at earlier).published n ((at earlier).shown reader) ((sound_at earlier parts.0).shown reader) parts.1.0.0;
    fronts = λ earlier later reader is.
        let parts = split earlier (front ∷ later) is in
        (sound_at earlier parts.0).shown reader;
    imports_once = (all_once b end.accepted sound.follow).0;
    withdraws_once = (all_once b end.accepted sound.follow).1;
  }
    where
      at : List Happening → State
      at hs = state_after (opening E) hs

      end : State
      end = at happenings

      sound_at : (hs : List Happening) → AllMayCome b rules (opening E) hs → IsSound (at hs)
      sound_at hs m = after_sound (opening E) hs (opening_sound E all) m

      sound : IsSound end
      sound = sound_at happenings may

      begins : IsPrefix end.published end.accepted
      begins = next_begins end.published end.accepted sound.next

      split : (earlier later : List Happening) → happenings ≡ earlier ++ later → AllMayCome b rules (opening E) earlier × AllMayCome b rules (at earlier) later
      split earlier later is = may_parts (opening E) earlier later (subst (AllMayCome b rules (opening E)) is may)

pub one_history : (b : Bounds) (rules : RuleSet) → AllAreOneHistory b rules
one_history b rules = one_history_from b rules
