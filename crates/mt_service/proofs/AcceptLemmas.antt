-- What comes of a text, from the parts of a step.
use Rattle.std.proofs.Common.{◌≡◌, ℕ, zero, suc, ◌+◌, ◌-◌, ◌<◌, ◌≤◌, inl, inr, Bool, true, false, List, [], ◌∷◌, ◌++◌, length, take, refl, sym, subst, arith}
use Rattle.std.specs.Prelude.{Result, Ok, Err, MatchResult}
use Rattle.std.proofs.Math.ListN.{set}
use Rattle.std.proofs.lemmas.List.{take_all, length_push}
use Rattle.mt_system.specs.declared.claims.Form.{Form}
use Rattle.mt_system.specs.declared.claims.Form.TheVariants.{Ooa, Net, Seq}
use Rattle.mt_system.specs.Rows.{Matrices}
use Rattle.mt_system.specs.Statements.{Statement}
use Rattle.mt_cells.specs.declared.bounds.Bounds.{Bounds}
use Rattle.mt_cells.specs.declared.rules.RuleSet.{RuleSet}
use Rattle.mt_cells.specs.Cells.{InBounds}
use Rattle.mt_derive.specs.declared.events.Event.{Event}
use Rattle.mt_derive.specs.declared.events.Event.TheVariants.{Import, Withdraw}
use Rattle.mt_derive.specs.declared.imports.TheConstants.{MOST_IMPORTS, MOST_EVENTS}
use Rattle.mt_derive.specs.Events.{imports_of, Follows, AllFollow}
use Rattle.mt_derive.specs.Flags.{AreFlags}
use Rattle.mt_derive.specs.Imports.{cell_by, IsNamed}
use Rattle.mt_derive.proofs.PlaceLemmas.{place_some}
use Rattle.mt_derive.proofs.EventLemmas.{count_import, imports_withdraw, follow_push, take_event, flags_import, flags_withdraw}
use Rattle.mt_service.specs.declared.outcomes.Outcome.{Outcome}
use Rattle.mt_service.specs.declared.outcomes.Outcome.TheVariants as outcome
use Rattle.mt_service.specs.declared.service.NamedEvent.{NamedEvent}
use Rattle.mt_service.specs.Gate.{Reads}
use Rattle.mt_table.specs.declared.table.Applied.{Applied}
use Rattle.mt_table.specs.Tables.{HasTried}
use Rattle.mt_service.specs.Steps.{IsStep, IsAccepted, IsAppended, IsKnown}
use Rattle.mt_service.specs.Accepting.{HasName, IsDeclinedOrMemory, Compares, IsKnownAs, IsDone, Ends}

-- ---- claims

-- a claim whose name is known
pub known_compares : (E : List Event) (c : Statement) (n : ℕ) (o : Outcome) → IsNamed (imports_of E) c.name n → IsKnownAs E c n o → Compares E c (Err o)
known_compares E c n (outcome.Already number name) named known = (n, named, known)
known_compares E c n (outcome.IsWithdrawn number name) named known = (n, named, known)
known_compares E c n (outcome.NameTaken number name) named known = (n, named, known)
known_compares E c n (outcome.Form refused) named known = absurd known
known_compares E c n (outcome.NoImport name) named known = absurd known
known_compares E c n (outcome.AlreadyWithdrawn number name) named known = absurd known
known_compares E c n (outcome.Range name number limit) named known = absurd known
known_compares E c n (outcome.TooManyChoices count) named known = absurd known
known_compares E c n outcome.Full named known = absurd known
known_compares E c n (outcome.Dependent form part choice coefficients) named known = absurd known
known_compares E c n outcome.KeeperFault named known = absurd known
known_compares E c n outcome.Memory named known = absurd known
known_compares E c n (outcome.Accepted number name raised tried) named known = absurd known
known_compares E c n (outcome.Withdrawn number name lowered tried) named known = absurd known

module _ (b : Bounds) (E : List Event) (text : List ℕ) (c : Statement) (reads : Reads b text c) where
  is_known : (n number : ℕ) (name : List ℕ) → IsNamed (imports_of E) c.name n → number ≡ n → name ≡ c.name → IsKnown b E text c number name
  is_known n number name named number_is name_is = record { reads = reads; name_is = name_is; named = rw (number_is, name_is) named }

  -- what the text of a claim comes to
  pub compared : (r : Result NamedEvent Outcome) → Compares E c r
      → MatchResult r (λ n. IsAccepted b E text n.event × HasName E text n.event n.name) (IsDeclinedOrMemory b E text)
  compared (Ok named) (event, name, lacks, room, holds) =
      subst (λ (e : Event). IsAccepted b E text e × HasName E text e named.name) (sym event)
      ((record { reads = reads; named = lacks; room = room }, holds), name)
  compared (Err outcome.Full) (lacks, full) = (c, reads, lacks, full)
  compared (Err (outcome.Dependent form part choice coefficients)) (lacks, room, fails) =
      (c, record { reads = reads; named = lacks; room = room }, fails)
  compared (Err outcome.Memory) h = tt
  compared (Err (outcome.Already number name)) (n, named, (number_is, name_is, same, live)) =
      (c, is_known n number name named number_is name_is, rw number_is same, rw number_is live)
  compared (Err (outcome.IsWithdrawn number name)) (n, named, (number_is, name_is, same, dead)) =
      (c, is_known n number name named number_is name_is, rw number_is same, rw number_is dead)
  compared (Err (outcome.NameTaken number name)) (n, named, (number_is, name_is, other)) =
      (c, is_known n number name named number_is name_is, rw number_is other)
  compared (Err (outcome.Form refused)) (n, named, never) = absurd never
  compared (Err (outcome.NoImport name)) (n, named, never) = absurd never
  compared (Err (outcome.AlreadyWithdrawn number name)) (n, named, never) = absurd never
  compared (Err (outcome.Range name number limit)) (n, named, never) = absurd never
  compared (Err (outcome.TooManyChoices count)) (n, named, never) = absurd never
  compared (Err outcome.KeeperFault) (n, named, never) = absurd never
  compared (Err (outcome.Accepted number name raised tried)) (n, named, never) = absurd never
  compared (Err (outcome.Withdrawn number name lowered tried)) (n, named, never) = absurd never

-- ---- steps

module _ (b : Bounds) (rules : RuleSet) (E : List Event) (text : List ℕ) where
  -- a declined text changes nothing
  pub declined_step : (o : Outcome) → IsDeclinedOrMemory b E text o → IsStep b rules E text o E
  declined_step (outcome.Form refused) h = (refl, h)
  declined_step (outcome.NoImport name) h = (refl, h)
  declined_step (outcome.AlreadyWithdrawn number name) h = (refl, h)
  declined_step (outcome.Range name number limit) h = (refl, h)
  declined_step (outcome.TooManyChoices count) h = (refl, h)
  declined_step (outcome.Already number name) h = (refl, h)
  declined_step (outcome.IsWithdrawn number name) h = (refl, h)
  declined_step (outcome.NameTaken number name) h = (refl, h)
  declined_step outcome.Full h = (refl, h)
  declined_step (outcome.Dependent form part choice coefficients) h = (refl, h)
  declined_step outcome.Memory h = refl
  declined_step outcome.KeeperFault h = absurd h
  declined_step (outcome.Accepted number name raised tried) h = absurd h
  declined_step (outcome.Withdrawn number name lowered tried) h = absurd h

  -- an accepted text whose event was appended
  appended_step : (e : Event) (name : List ℕ) (o : Outcome) (M : List Event) (applied : Applied) → IsAccepted b E text e → HasName E text e name
      → IsAppended b rules E M e applied.raised → HasTried b rules E e applied.tried → IsDone M e name applied o → IsStep b rules E text o M
  appended_step (Import c) name o M applied accepted named appended tried is =
      subst (λ (p : Outcome). IsStep b rules E text p M) (sym is) (c, accepted, appended, refl, named, tried)
  appended_step (Withdraw n) name o M applied accepted named appended tried is =
      subst (λ (p : Outcome). IsStep b rules E text p M) (sym is) (named, accepted.2, appended, tried)

  -- an accepted text is put and its event appended, or neither
  pub accepted_step : (e : Event) (name : List ℕ) (o : Outcome) (M : List Event) → IsAccepted b E text e → HasName E text e name → Ends b rules E e name o M → IsStep b rules E text o M
  accepted_step e name o M accepted named (inl (same, inl is)) = subst (λ (p : Outcome). IsStep b rules E text p M) (sym is) (same, e, accepted)
  accepted_step e name o M accepted named (inl (same, inr is)) = subst (λ (p : Outcome). IsStep b rules E text p M) (sym is) same
  accepted_step e name o M accepted named (inr (applied, appended, tried, is)) = appended_step e name o M applied accepted named appended tried is

-- ---- events

cell_inside : (b : Bounds) (f : Form) (a : Matrices) → (1 ≤ a.columns) × (a.columns ≤ b.m_max) × (1 ≤ a.coordinates) × (a.coordinates ≤ b.s_max) → (1 ≤ a.depth) × (a.depth ≤ a.columns)
    → InBounds b (cell_by f a)
cell_inside b Ooa a (low, high, from, to) depth = (low, high, from, to, depth.0, depth.1)
cell_inside b Net a (low, high, from, to) depth = (low, high, from, to, depth.0, depth.1)
cell_inside b Seq a sizes depth = sizes

-- the event of a text may come next
pub accepted_follows : (b : Bounds) (E : List Event) (text : List ℕ) (e : Event) → IsAccepted b E text e → Follows b E e
accepted_follows b E text (Import c) (new, holds) =
    let within = new.reads.0 in
    let header = within.text_of.begins.header.header in
    (new.room, cell_inside b c.form c.system (header.columns_from, within.columns, header.coordinates_from, within.coordinates) (header.depth_from, header.depth_to), new.named)
accepted_follows b E text (Withdraw n) (name, to_withdraw, live) = live

-- ---- how many events there are

-- a flag for each import, and no more imports than there may be
record HasFlags (E : List Event) : Type 0 where
  flags : List Bool
  are : AreFlags E flags
  few : length (imports_of E) ≤ MOST_IMPORTS

flags_next : (b : Bounds) (E : List Event) (e : Event) → HasFlags E → Follows b E e → HasFlags (E ++ e ∷ [])
flags_next b E (Import c) h f = record {
  flags = h.flags ++ true ∷ [];
  are = flags_import E h.flags c h.are;
  few = omega (arith, count_import E c, f.0);
}
flags_next b E (Withdraw n) h f = record {
  flags = set h.flags (n - 1) false;
  are = flags_withdraw E h.flags n h.are f;
  few = rw (imports_withdraw E n) h.few;
}

flags_upto : (b : Bounds) (E : List Event) → AllFollow b E → (n : ℕ) → n ≤ length E → HasFlags (take n E)
flags_upto b E all zero h = record { flags = []; are = record { count = refl; each = λ n. refl; balance = refl }; few = omega arith }
flags_upto b E all (suc n) h =
    let at = place_some E n (omega arith) in
    let more : suc n ≡ n + 1 = omega arith in
    rw (more, take_event E n at.0 at.1) (flags_next b (take n E) at.0 (flags_upto b E all n (omega arith)) (all n at.0 at.1))

few_events : (b : Bounds) (E : List Event) → AllFollow b E → length E ≤ MOST_EVENTS
few_events b E all =
    let h : HasFlags E = subst HasFlags (take_all (length E) E (omega arith)) (flags_upto b E all (length E) (omega arith)) in
    omega (arith, h.are.balance, h.are.count, h.few)

-- there is a number for each event, and for the next
pub number_fits : (b : Bounds) (E : List Event) → AllFollow b E → length E < 4294967295
number_fits b E all = omega (arith, few_events b E all)

-- there are not too many with the event that may come next
pub few_next : (b : Bounds) (E : List Event) (e : Event) → AllFollow b E → Follows b E e → length E + 1 ≤ MOST_EVENTS
few_next b E e all next = omega (arith, few_events b (E ++ e ∷ []) (follow_push b E e all next), length_push E e)
