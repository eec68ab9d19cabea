-- A text comes to one outcome over a list.
use Rattle.std.proofs.Common.{◌≡◌, ℕ, zero, suc, ◌-◌, ◌<◌, ◌≤◌, ◌⊎◌, inl, inr, List, [], ◌∷◌, ◌++◌, length, take, get_or, refl, sym, ap, ◌∙◌, subst, arith}
use Rattle.std.proofs.lemmas.Bool.{cases_lt}
use Rattle.mt_linear.specs.declared.order.Order.{Order}
use Rattle.mt_linear.specs.Vectors.{Digits}
use Rattle.mt_system.specs.declared.claims.Form.{Form}
use Rattle.mt_system.specs.declared.claims.Form.TheVariants as form
use Rattle.mt_system.specs.Rows.{Matrices, rows_of, rows_by, part_rows}
use Rattle.mt_system.specs.Statements.{Statement}
use Rattle.mt_strength.specs.Checks.{IsFailure}
use Rattle.mt_strength.specs.Statements.{HasStrength, Holds}
use Rattle.mt_strength.proofs.RowLemmas.{relation_dependent}
use Rattle.mt_cells.specs.declared.bounds.Bounds.{Bounds}
use Rattle.mt_cells.specs.declared.asks.Part.{Part}
use Rattle.mt_cells.specs.declared.asks.Part.TheVariants as part
use Rattle.mt_cells.specs.declared.rules.RuleSet.{RuleSet}
use Rattle.mt_cells.proofs.CellLemmas.{order_same}
use Rattle.mt_import.specs.declared.headers.Header.{Header}
use Rattle.mt_import.specs.declared.refusals.FormRefused.{FormRefused}
use Rattle.mt_import.specs.Canonical.{header_of}
use Rattle.mt_import.specs.Events.{IsSomeImport, IsEventRefusal}
use Rattle.mt_import.specs.Laws.{HasOneImport}
use Rattle.mt_import.specs.EventLaws.{HasOneWithdrawal, HasOneKind, IsNotRefusedEvent}
use Rattle.mt_import.specs.Withdrawals.{IsWithdrawal}
use Rattle.mt_derive.specs.declared.events.Event.{Event}
use Rattle.mt_derive.specs.declared.events.Event.TheVariants.{Import, Withdraw}
use Rattle.mt_derive.specs.declared.imports.TheConstants.{MOST_IMPORTS}
use Rattle.mt_derive.specs.Events.{imports_of, IsLive}
use Rattle.mt_derive.specs.Imports.{IsImport, LacksName, IsNamed}
use Rattle.mt_derive.specs.Places.{IsAt}
use Rattle.mt_derive.proofs.PlaceLemmas.{place_below, place_index, place_same, place_last}
use Rattle.mt_service.specs.declared.gate.TheConstants.{MOST_CHOICES}
use Rattle.mt_service.specs.declared.outcomes.Outcome.{Outcome}
use Rattle.mt_service.specs.declared.outcomes.Outcome.TheVariants as outcome
use Rattle.mt_service.specs.Gate.{choices, Reads, IsOverLimit, IsTextWithin}
use Rattle.mt_service.specs.Steps.{IsKnown, IsAccepted, IsStep}
use Rattle.mt_service.specs.Records.{AreAccepted}
use Rattle.mt_service.specs.Laws.{place_of}

-- ---- names and numbers

place_within : {A : Type 0} (n : ℕ) (xs : List A) (p : ℕ) (x : A) → p < n → IsAt xs p x → IsAt (take n xs) p x
place_within zero xs p x l h = absurd (omega arith)
place_within (suc n) [] p x l h = absurd h
place_within (suc n) (y ∷ ys) zero x l h = h
place_within (suc n) (y ∷ ys) (suc p) x l h = place_within n ys p x (omega arith) h

-- an import with the name is not behind the first
named_first : (L : List Statement) (name : List ℕ) (n m : ℕ) → IsNamed L name n → IsNamed L name m → n < m → ⊥
named_first L name n m x y l =
    let at : IsAt (take (m - 1) L) (n - 1) x.claim = place_within (m - 1) L (n - 1) x.claim (omega (arith, x.place.0)) x.place.1 in
    let here : get_or (take (m - 1) L) (n - 1) x.claim ≡ x.claim = place_index (take (m - 1) L) (n - 1) x.claim x.claim at in
    y.first (n - 1) x.claim (place_below (take (m - 1) L) (n - 1) x.claim at) (ap (λ (c : Statement). c.name) here ∙ x.named)

named_apart : (L : List Statement) (name : List ℕ) (n : ℕ) → IsNamed L name n → LacksName L name → ⊥
named_apart L name n x lacks =
    let here : get_or L (n - 1) x.claim ≡ x.claim = place_index L (n - 1) x.claim x.claim x.place.1 in
    lacks (n - 1) x.claim (place_below L (n - 1) x.claim x.place.1) (ap (λ (c : Statement). c.name) here ∙ x.named)

named_one : (L : List Statement) (name : List ℕ) (n m : ℕ) → IsNamed L name n → IsNamed L name m → n ≡ m
named_one L name n m x y = elim (cases_lt n m) [
  | inl l ↦ absurd (named_first L name n m x y l)
  | inr l ↦ elim (cases_lt m n) [ inl k ↦ absurd (named_first L name m n y x k) | inr k ↦ omega arith ]
]

last_same : (E : List Event) (e f : Event) → E ++ e ∷ [] ≡ E ++ f ∷ [] → e ≡ f
last_same E e f is = place_same (E ++ f ∷ []) (length E) e f (subst (λ (F : List Event). IsAt F (length E) e) is (place_last E e)) (place_last E f)

-- ---- claims

abbrev rebuilt : Header → Order → List ℕ → List ℕ → Statement
rebuilt h o note digits = record {
  form = h.form;
  name = h.name;
  note = note;
  k = h.k;
  system = record { order = o; columns = h.m; coordinates = h.s; depth = h.depth; digits = digits };
}

statement_same : (c d : Statement) → header_of c ≡ header_of d → c.note ≡ d.note → c.system.digits ≡ d.system.digits → c ≡ d
statement_same c d header note digits =
    let order : c.system.order ≡ d.system.order = order_same c.system.order d.system.order (ap (λ (h : Header). h.q) header) in
    ap (λ (h : Header). rebuilt h c.system.order c.note c.system.digits) header
    ∙ ap (λ (o : Order). rebuilt (header_of d) o c.note c.system.digits) order
    ∙ ap (λ (x : List ℕ). rebuilt (header_of d) d.system.order x c.system.digits) note
    ∙ ap (λ (x : List ℕ). rebuilt (header_of d) d.system.order d.note x) digits

-- with a dependent choice the strength fails
failure_fails : (f : Form) (a : Matrices) (k n : ℕ) (choice : List ℕ) (coefficients : Digits) → IsFailure f a k n choice coefficients → HasStrength f a k → ⊥
failure_fails form.Ooa a k n choice coefficients x holds =
    relation_dependent a.order (rows_of a choice) coefficients.digits x.1.relation (holds choice x.1.choice x.1.size)
failure_fails form.Net a k n choice coefficients x holds =
    relation_dependent a.order (rows_of a choice) coefficients.digits x.1.relation (holds choice x.1.choice x.1.size)
failure_fails form.Seq a k n choice coefficients x holds =
    relation_dependent a.order (rows_by (part_rows a n) choice) coefficients.digits x.first.relation (holds n x.within choice x.first.choice x.first.size)

-- ---- what decides one place and one list

abbrev One : (ℕ → List Event → Type 0) → Type 0
One T = (p q : ℕ) (M N : List Event) → T p M → T q N → (p ≡ q) × (M ≡ N)

abbrev Leaf : Type 0 → ℕ → List Event → ℕ → List Event → Type 0
Leaf P k F p M = P × (p ≡ k) × (M ≡ F)

abbrev Either : (ℕ → List Event → Type 0) → (ℕ → List Event → Type 0) → ℕ → List Event → Type 0
Either A B p M = A p M ⊎ B p M

abbrev Under : (X : Type 0) → (X → Type 0) → (X → ℕ → List Event → Type 0) → ℕ → List Event → Type 0
Under X Q A p M = (x : X) × Q x × A x p M

leaf_one : (P : Type 0) (k : ℕ) (F : List Event) → One (Leaf P k F)
leaf_one P k F p q M N x y = (x.1 ∙ sym y.1, x.2 ∙ sym y.2)

either_one : (A B : ℕ → List Event → Type 0) → One A → One B → ((p q : ℕ) (M N : List Event) → A p M → B q N → ⊥) → One (Either A B)
either_one A B a b apart p q M N (inl x) (inl y) = a p q M N x y
either_one A B a b apart p q M N (inl x) (inr y) = absurd (apart p q M N x y)
either_one A B a b apart p q M N (inr x) (inl y) = absurd (apart q p N M y x)
either_one A B a b apart p q M N (inr x) (inr y) = b p q M N x y

under_one : (X : Type 0) (Q : X → Type 0) (A : X → ℕ → List Event → Type 0) → ((x y : X) → Q x → Q y → x ≡ y) → ((x : X) → One (A x)) → One (Under X Q A)
under_one X Q A same a p q M N (x, at, s) (y, bt, t) = a x p q M N s (subst (λ (z : X). A z q N) (same y x bt at) t)

-- ---- the order in which the reasons are looked for

module _ (b : Bounds) (E : List Event) (text : List ℕ) where
  abbrev Live : ℕ → ℕ → List Event → Type 0
  Live n = Either (Leaf (¬ IsLive E n) 3 E) (Leaf (IsLive E n) 4 (E ++ Withdraw n ∷ []))

  abbrev Found : List ℕ → ℕ → List Event → Type 0
  Found name = Either (Leaf (LacksName (imports_of E) name) 2 E) (Under ℕ (IsNamed (imports_of E) name) Live)

  abbrev Known : Statement → ℕ → ℕ → List Event → Type 0
  Known c n =
      Either (Leaf (¬ IsImport (imports_of E) n c) 9 E)
      (Either (Leaf (IsImport (imports_of E) n c × IsLive E n) 7 E) (Leaf (IsImport (imports_of E) n c × ¬ IsLive E n) 8 E))

  abbrev Fails : Statement → Type 0
  Fails c = (n : ℕ) × (choice : List ℕ) × (coefficients : Digits) × IsFailure c.form c.system c.k n choice coefficients

  abbrev Room : Statement → ℕ → List Event → Type 0
  Room c =
      Either (Leaf (MOST_IMPORTS ≤ length (imports_of E)) 10 E)
      (Either (Leaf ((length (imports_of E) < MOST_IMPORTS) × Fails c) 11 E) (Leaf ((length (imports_of E) < MOST_IMPORTS) × Holds c) 12 (E ++ Import c ∷ [])))

  abbrev New : Statement → ℕ → List Event → Type 0
  New c p M = LacksName (imports_of E) c.name × Room c p M

  abbrev Taken : Statement → ℕ → List Event → Type 0
  Taken c p M = (choices c ≤ MOST_CHOICES) × Either (Under ℕ (IsNamed (imports_of E) c.name) (Known c)) (New c) p M

  abbrev Claimed : Statement → ℕ → List Event → Type 0
  Claimed c = Either (Leaf (MOST_CHOICES < choices c) 6 E) (Taken c)

  abbrev IsOver : Type 0
  IsOver = (name : Part) × (number limit : ℕ) × IsOverLimit b text name number limit

  abbrev Imports : ℕ → List Event → Type 0
  Imports = Either (Leaf IsOver 5 E) (Under Statement (IsTextWithin b text) Claimed)

  abbrev Withdraws : ℕ → List Event → Type 0
  Withdraws = Under (List ℕ) (IsWithdrawal text) Found

  abbrev Refused : ℕ → List Event → Type 0
  Refused = Leaf ((refused : FormRefused) × IsEventRefusal text refused) 1 E

  abbrev Comes : ℕ → List Event → Type 0
  Comes = Either Refused (Either Withdraws Imports)

  -- each step is one of these
  claimed : (c : Statement) (p : ℕ) (M : List Event) → Reads b text c → Either (Under ℕ (IsNamed (imports_of E) c.name) (Known c)) (New c) p M → Comes p M
  claimed c p M reads x = inr (inr (inr (c, reads.0, inr (reads.1, x))))

  known : (c : Statement) (n : ℕ) (name : List ℕ) (p : ℕ) (M : List Event) → IsKnown b E text c n name → Known c n p M → Comes p M
  known c n name p M is x = claimed c p M is.reads (inl (n, subst (λ (z : List ℕ). IsNamed (imports_of E) z n) is.name_is is.named, x))

  abbrev accepted_at : Event → ℕ
  accepted_at (Import c) = 12
  accepted_at (Withdraw n) = 4

  appended : (e : Event) (M : List Event) → IsAccepted b E text e → M ≡ E ++ e ∷ [] → Comes (accepted_at e) M
  appended (Import c) M (new, holds) is = claimed c 12 M new.reads (inr (new.named, inr (inr ((new.room, holds), refl, is))))
  appended (Withdraw n) M (name, to, live) is = inr (inl (name, to.withdrawal, inr (n, to.named, inr (live, refl, is))))

  pub comes : (rules : RuleSet) (o : Outcome) (M : List Event) → IsStep b rules E text o M → 1 ≤ place_of o → Comes (place_of o) M
  comes rules (outcome.Form refused) M (is, d) l = inl ((refused, d), refl, is)
  comes rules (outcome.NoImport name) M (is, (withdrawal, lacks)) l = inr (inl (name, withdrawal, inl (lacks, refl, is)))
  comes rules (outcome.AlreadyWithdrawn n name) M (is, (to, dead)) l = inr (inl (name, to.withdrawal, inr (n, to.named, inl (dead, refl, is))))
  comes rules (outcome.Withdrawn n name lowered tried) M (to, live, a, t) l = appended (Withdraw n) M (name, to, live) a.list
  comes rules (outcome.Range name number limit) M (is, over) l = inr (inr (inl ((name, number, limit, over), refl, is)))
  comes rules (outcome.TooManyChoices count) M (is, (c, within, many, count_is)) l = inr (inr (inr (c, within, inl (many, refl, is))))
  comes rules (outcome.Already n name) M (is, (c, k, same, live)) l = known c n name 7 M k (inr (inl ((same, live), refl, is)))
  comes rules (outcome.IsWithdrawn n name) M (is, (c, k, same, dead)) l = known c n name 8 M k (inr (inr ((same, dead), refl, is)))
  comes rules (outcome.NameTaken n name) M (is, (c, k, other)) l = known c n name 9 M k (inl (other, refl, is))
  comes rules outcome.Full M (is, (c, reads, lacks, full)) l = claimed c 10 M reads (inr (lacks, inl (full, refl, is)))
  comes rules (outcome.Dependent f n choice coefficients) M (is, (c, new, d)) l =
      claimed c 11 M new.reads (inr (new.named, inr (inl ((new.room, (n, choice, coefficients, d.1)), refl, is))))
  comes rules (outcome.Accepted n name raised tried) M (c, accepted, a, number, name_is, t) l = appended (Import c) M accepted a.list
  comes rules outcome.KeeperFault M s l = absurd (omega arith)
  comes rules outcome.Memory M s l = absurd (omega arith)

  -- and of these there is one
  module _ (one : HasOneImport text) (withdrawal : HasOneWithdrawal text) (kind : HasOneKind text) (either : IsNotRefusedEvent text) where
    within_one : (c d : Statement) → IsTextWithin b text c → IsTextWithin b text d → c ≡ d
    within_one c d x y =
        let same = one (header_of c) (header_of d) c.note d.note c.system.digits d.system.digits x.text_of y.text_of in
        statement_same c d same.0 same.1 same.2

    over_apart : (name : Part) (number limit : ℕ) (c : Statement) → IsOverLimit b text name number limit → IsTextWithin b text c → ⊥
    over_apart part.M number limit c x y =
        let same : x.header.m ≡ c.system.columns = ap (λ (h : Header). h.m) (one x.header (header_of c) x.note c.note x.digits c.system.digits x.import y.text_of).0 in
        omega (arith, x.over.0, same, y.columns)
    over_apart part.S number limit c x y =
        let same : x.header.s ≡ c.system.coordinates = ap (λ (h : Header). h.s) (one x.header (header_of c) x.note c.note x.digits c.system.digits x.import y.text_of).0 in
        omega (arith, x.over.1, same, y.coordinates)
    over_apart part.Q number limit c x y = absurd x.over
    over_apart part.Depth number limit c x y = absurd x.over

    live_one : (n : ℕ) → One (Live n)
    live_one n = either_one (Leaf (¬ IsLive E n) 3 E) (Leaf (IsLive E n) 4 (E ++ Withdraw n ∷ [])) (leaf_one _ _ _) (leaf_one _ _ _)
        (λ p q M N x y. x.0 y.0)

    found_one : (name : List ℕ) → One (Found name)
    found_one name = either_one (Leaf (LacksName (imports_of E) name) 2 E) (Under ℕ (IsNamed (imports_of E) name) Live) (leaf_one _ _ _)
        (under_one ℕ (IsNamed (imports_of E) name) Live (named_one (imports_of E) name) live_one)
        (λ p q M N x y. named_apart (imports_of E) name y.0 y.1 x.0)

    known_one : (c : Statement) (n : ℕ) → One (Known c n)
    known_one c n =
        let L = imports_of E in
        let live : ℕ → List Event → Type 0 = Leaf (IsImport L n c × IsLive E n) 7 E in
        let dead : ℕ → List Event → Type 0 = Leaf (IsImport L n c × ¬ IsLive E n) 8 E in
        either_one (Leaf (¬ IsImport L n c) 9 E) (Either live dead) (leaf_one _ _ _)
        (either_one live dead (leaf_one _ _ _) (leaf_one _ _ _) (λ p q M N x y. y.0.1 x.0.1))
        (λ p q M N x y. x.0 (elim y [ inl z ↦ z.0.0 | inr z ↦ z.0.0 ]))

    room_one : (c : Statement) → One (Room c)
    room_one c =
        let L = imports_of E in
        let fails : ℕ → List Event → Type 0 = Leaf ((length L < MOST_IMPORTS) × Fails c) 11 E in
        let holds : ℕ → List Event → Type 0 = Leaf ((length L < MOST_IMPORTS) × Holds c) 12 (E ++ Import c ∷ []) in
        either_one (Leaf (MOST_IMPORTS ≤ length L) 10 E) (Either fails holds) (leaf_one _ _ _)
        (either_one fails holds (leaf_one _ _ _) (leaf_one _ _ _)
        (λ p q M N x y. failure_fails c.form c.system c.k x.0.1.0 x.0.1.1 x.0.1.2 x.0.1.3 y.0.1))
        (λ p q M N x y. let room : length L < MOST_IMPORTS = elim y [ inl z ↦ z.0.0 | inr z ↦ z.0.0 ] in omega (arith, x.0, room))

    claimed_one : (c : Statement) → One (Claimed c)
    claimed_one c = either_one (Leaf (MOST_CHOICES < choices c) 6 E) (Taken c) (leaf_one _ _ _)
        (λ p q M N x y. either_one (Under ℕ (IsNamed (imports_of E) c.name) (Known c)) (New c)
        (under_one ℕ (IsNamed (imports_of E) c.name) (Known c) (named_one (imports_of E) c.name) (known_one c))
        (λ p q M N x y. room_one c p q M N x.1 y.1)
        (λ p q M N x y. named_apart (imports_of E) c.name x.0 x.1 y.0) p q M N x.1 y.1)
        (λ p q M N x y. omega (arith, x.0, y.0))

    imports_one : One Imports
    imports_one = either_one (Leaf IsOver 5 E) (Under Statement (IsTextWithin b text) Claimed) (leaf_one _ _ _)
        (under_one Statement (IsTextWithin b text) Claimed within_one claimed_one)
        (λ p q M N x y. over_apart x.0.0 x.0.1 x.0.2 y.0 x.0.3 y.1)

    import_of : (p : ℕ) (M : List Event) → Imports p M → IsSomeImport text
    import_of p M (inl (over, at, is)) = (over.3.header, over.3.note, over.3.digits, over.3.import)
    import_of p M (inr (c, within, others)) = (header_of c, c.note, c.system.digits, within.text_of)

    pub comes_one : One Comes
    comes_one = either_one Refused (Either Withdraws Imports) (leaf_one _ _ _)
        (either_one Withdraws Imports (under_one (List ℕ) (IsWithdrawal text) Found withdrawal found_one) imports_one
        (λ p q M N x y. let i = import_of q N y in kind i.0 i.1 i.2 x.0 i.3 x.1))
        (λ p q M N x y. either x.0.0 (elim y [ inl w ↦ inr (w.0, w.1) | inr i ↦ inl (import_of q N i) ]) x.0.1)

    -- a text is accepted as one event
    pub accepted_one : (e f : Event) → IsAccepted b E text e → IsAccepted b E text f → e ≡ f
    accepted_one e f x y =
        let left = E ++ e ∷ [] in
        let right = E ++ f ∷ [] in
        last_same E e f (comes_one (accepted_at e) (accepted_at f) left right (appended e left x refl) (appended f right y refl)).1

-- ---- records stand for one list

module _ (one : (t : List ℕ) → HasOneImport t) (withdrawal : (t : List ℕ) → HasOneWithdrawal t) (kind : (t : List ℕ) → HasOneKind t) (either : (t : List ℕ) → IsNotRefusedEvent t) (b : Bounds) where
  pub list_one : (E : List Event) (texts : List (List ℕ)) (F G : List Event) → AreAccepted b E texts F → AreAccepted b E texts G → F ≡ G
  list_one E [] [] [] x y = refl
  list_one E [] [] (g ∷ G) x y = absurd y
  list_one E [] (f ∷ F) G x y = absurd x
  list_one E (t ∷ ts) [] G x y = absurd x
  list_one E (t ∷ ts) (f ∷ F) [] x y = absurd y
  list_one E (t ∷ ts) (f ∷ F) (g ∷ G) x y =
      let same : g ≡ f = accepted_one b E t (one t) (withdrawal t) (kind t) (either t) g f y.0 x.0 in
      let rest : F ≡ G = list_one (E ++ f ∷ []) ts F G x.1 (subst (λ (e : Event). AreAccepted b (E ++ e ∷ []) ts G) same y.1) in
      ap (λ (X : List Event). f ∷ X) rest ∙ ap (λ (e : Event). e ∷ G) (sym same)
