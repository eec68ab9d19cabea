-- Each step keeps the rule of the publication.
use Rattle.std.proofs.Common.{◌≡◌, ◌≢◌, ℕ, zero, suc, ◌+◌, ◌<◌, eqb, IsSomeAnd, List, [], ◌∷◌, ◌++◌, length, get_or, set, sym, refl, ap, ◌∙◌, subst, ⊎_elim, arith, Option, Some, None, length-set, get_or-set_other, get_or-set_same, append_assoc, append-nil}
use mathlib.Core.Logic.{dite}
use mathlib.Core.Option.{none, some, some-ne-none, some-injective}
use mathlib.Core.Option as maybe
use mathlib.Core.List.{IsPrefix}
use native.Mathlib.Decide.{ℕ_discrete}
use lib.ListN.{get_elem?, length-map}
use lib.Seq.{set-get_or}
use prog.Atomic.{either}
use Rattle.atomic_table.specs.Table.{State, Me, step, Act, keeps, takes, gives, stepped, Valid, carried_after, Allows, Enters, Splits, Joins, opening}
use Rattle.atomic_table.proofs.Lists.{at_set, set_here, set_else, set_again, at_snoc, at_map, exchanged}
use Rattle.mt_publish.specs.Prefixes.{AllPrefixes}
use Rattle.mt_publish.specs.declared.role.Role.{Role}
use Rattle.mt_publish.specs.declared.role.Role.TheVariants.{Spent, Resting, Handing, Swapping, Seated, Reading, Noted}
use Rattle.mt_publish.specs.declared.role.Item.{Item}
use Rattle.mt_publish.specs.declared.role.Item.TheVariants.{Base, Entry}
use Rattle.mt_publish.specs.Rule.{HasSlot, Knows, Kept, sat, entered, returned, announced, reached, swapped, rested, front_of, told, begun, base_of, list_of}

module _ {E : Type 0} where
  pub prefix_self : (xs : List E) → IsPrefix xs xs
  prefix_self xs = ([], append-nil xs)

  pub prefix_trans : (xs ys zs : List E) → IsPrefix xs ys → IsPrefix ys zs → IsPrefix xs zs
  prefix_trans xs ys zs p q = (p.0 ++ q.0, sym (append_assoc xs p.0 q.0) ∙ (ap (λ w. w ++ q.0) p.1 ∙ q.1))

  pub same_prefix : (xs ys : List E) → xs ≡ ys → IsPrefix xs ys
  same_prefix xs ys e = ([], append-nil xs ∙ e)

  none_begin : (x : List E) → AllPrefixes x []
  none_begin x k d q = absurd (omega (arith, q))

  more_begin : (x l : List E) (ls : List (List E)) → IsPrefix l x → AllPrefixes x ls → AllPrefixes x (l ∷ ls)
  more_begin x l ls p h zero d q = p
  more_begin x l ls p h (suc k) d q = h k d (omega (arith, q))

  pub begin_further : (x y : List E) (ls : List (List E)) → IsPrefix x y → AllPrefixes x ls → AllPrefixes y ls
  begin_further x y ls p h k d q = prefix_trans (get_or ls k d) x y (h k d q) p

module _ {X : Type 0} where
  abbrev if_yes : {P : Type 0} → Dec P → X → X → X
  if_yes (yes _) a b = a
  if_yes (no _) a b = b

  put : (ℕ → X) → ℕ → X → ℕ → X
  put f i c j = if_yes (ℕ_discrete j i) c (f j)

  put_here : (f : ℕ → X) (i : ℕ) (c : X) → put f i c i ≡ c
  unfolding put
  put_here f i c = go (ℕ_discrete i i)
    where
      go : (d : Dec (i ≡ i)) → if_yes d c (f i) ≡ c
      go (yes _) = refl
      go (no n) = absurd (n refl)

  put_else : (f : ℕ → X) (i : ℕ) (c : X) (j : ℕ) → j ≢ i → put f i c j ≡ f j
  unfolding put
  put_else f i c j other = go (ℕ_discrete j i)
    where
      go : (d : Dec (j ≡ i)) → if_yes d c (f j) ≡ f j
      go (yes e) = absurd (other e)
      go (no _) = refl

module _ {E : Type 0} where
  seats_stay : (K : ℕ → Role E → Type 0) (vs : List (Role E)) (me : ℕ) (w : Role E) → K me w → ((j : ℕ) (d : Role E) → j ≢ me → get_elem? vs j ≡ some d → K j d)
      → (j : ℕ) (d : Role E) → get_elem? (set vs me w) j ≡ some d → K j d
  seats_stay K vs me w mine others j d e = ⊎_elim (λ (t : (j ≡ me) × (w ≡ d)). subst (λ (x : ℕ × Role E). K x.0 x.1) (λ i. (sym t.0 i, t.1 i)) mine)
      (λ (t : (j ≢ me) × (get_elem? vs j ≡ some d)). others j d t.0 t.1) (at_set vs me j w d e)

  -- what a seat knows stays true over a step of another seat
  others : (n : ℕ) (latest settled latest' settled' : List E) (shows shows' : ℕ → List E) (words words' : List ℕ) (owner owner' : ℕ → ℕ) (writer j : ℕ)
      → (j ≡ writer → (latest' ≡ latest) × (settled' ≡ settled) × ((i : ℕ) → shows' i ≡ shows i)) → IsPrefix settled settled' → ((i : ℕ) → i < n → IsPrefix (shows i) (shows' i))
      → ((i : ℕ) → HasSlot n words owner j i → (get_or words' i 0 ≡ 1) × (owner' i ≡ j) × (shows' i ≡ shows i))
      → (r : Role E) → Knows n latest settled shows words owner writer j r → Knows n latest' settled' shows' words' owner' writer j r
  others n latest settled latest' settled' shows shows' words words' owner owner' writer j same up ups held Spent k = k
  others n latest settled latest' settled' shows shows' words words' owner owner' writer j same up ups held (Resting x) k = let s = same k.0 in (k.0, s.0 ∙ k.1, s.1 ∙ k.2)
  others n latest settled latest' settled' shows shows' words words' owner owner' writer j same up ups held (Handing x d) k = let s = same k.0 in (k.0, s.0 ∙ k.1, λ i l. s.2 i ∙ k.2 i l)
  others n latest settled latest' settled' shows shows' words words' owner owner' writer j same up ups held (Swapping x d) k = let s = same k.0 in let h = held d k.3 in
      (k.0, s.0 ∙ k.1, (λ i l. s.2 i ∙ k.2 i l), (k.3.0, h.0, h.1))
  others n latest settled latest' settled' shows shows' words words' owner owner' writer j same up ups held (Seated i x ls) k =
      (k.0, prefix_trans x (shows i) (shows' i) k.1 (ups i k.0), begin_further settled settled' ls up k.2)
  others n latest settled latest' settled' shows shows' words words' owner owner' writer j same up ups held (Reading i x) k = let h = held i k.1 in (h.2 ∙ k.0, (k.1.0, h.0, h.1))
  others n latest settled latest' settled' shows shows' words words' owner owner' writer j same up ups held (Noted x) k = prefix_trans x settled settled' k up

pub some_of : {A : Type 0} (φ : A → Type 0) (s : Option A) → IsSomeAnd s φ → (a : A) × (s ≡ Some a) × φ a
some_of φ (Some a) h = (a, refl, h)
some_of φ None h = absurd h

pub each_some : {A : Type 0} (φ : A → Type 0) (l : List (Option A)) → ((k : ℕ) (d : Option A) → k < length l → IsSomeAnd (get_or l k d) φ) → (i : ℕ) → i < length l → (a : A) × (get_elem? l i ≡ some (Some a)) × φ a
each_some φ [] all i h = absurd (omega arith)
each_some φ (s ∷ l) all zero h = let t = some_of φ s (all zero None h) in (t.0, ap (λ z. some z) t.1, t.2)
each_some φ (s ∷ l) all (suc i) h = each_some φ l (λ k d q. all (suc k) d (omega arith)) i (omega arith)

module _ {E A : Type 0} (listed : A → List E) where
  abbrev St : Type 0
  St = State (Option A) (Role E)

  abbrev M : Type 0
  M = Me (Option A) (Role E)

  abbrev Rule : St → Type 0
  Rule = Kept listed

  abbrev Sees : (s : St) → Rule s → ℕ → Role E → Type 0
  Sees s r id v = Knows r.n r.latest r.settled r.shows s.words r.owner r.writer id v

  sees : (s : St) (r : Rule s) (id : ℕ) (v w : Role E) → get_elem? s.views id ≡ some v → v ≡ w → Sees s r id w
  sees s r id v w at is = subst (Sees s r id) is (r.seats id v at)

  -- a step that changes nothing
  idle : (s : St) (r : Rule s) (i id : ℕ) (v : Role E) → get_elem? s.views id ≡ some v → Rule record { words = set s.words i (get_or s.words i 0); homes = s.homes; views = set s.views id v }
  idle s r i id v at = subst (λ (z : List ℕ × List (Role E)). Rule record { words = z.0; homes = s.homes; views = z.1 }) (λ k. (sym (set-get_or s.words i 0) k, sym (set_again s.views id v at) k)) r

  -- a seat takes the slot i, which is at home, and its own view becomes w
  takes_slot : (s : St) (r : Rule s) (i id : ℕ) (w : Role E) → i < r.n → get_or s.words i 0 ≡ 0
      → Knows r.n r.latest r.settled r.shows (set s.words i 1) (put r.owner i id) r.writer id w
      → Rule record { words = set s.words i 1; homes = set s.homes i none; views = set s.views id w }
  takes_slot s r i id w inside free mine = record {
    n = r.n;
    latest = r.latest;
    settled = r.settled;
    shows = r.shows;
    owner = put r.owner i id;
    writer = r.writer;
    wide = length-set s.words i 1 ∙ r.wide;
    deep = length-set s.homes i none ∙ r.deep;
    low = r.low;
    high = r.high;
    home = λ k l z. dite (ℕ_discrete k i) (λ e. let one : get_or (set s.words i 1) i 0 ≡ 1 = get_or-set_same s.words i 1 0 (subst (λ m. i < m) (sym r.wide) inside) in
        let nil : get_or (set s.words i 1) i 0 ≡ 0 = subst (λ m. get_or (set s.words i 1) m 0 ≡ 0) e z in absurd (omega (arith, one, nil)))
        (λ ne. let h = r.home k l (sym (get_or-set_other s.words i k 1 0 ne) ∙ z) in (h.0, set_else s.homes i k none ne ∙ h.1, h.2));
    seats = seats_stay (Knows r.n r.latest r.settled r.shows (set s.words i 1) (put r.owner i id) r.writer) s.views id w mine
        (λ j d other at. others r.n r.latest r.settled r.latest r.settled r.shows r.shows s.words (set s.words i 1) r.owner (put r.owner i id) r.writer j (λ _. (refl, refl, λ _. refl)) (prefix_self r.settled) (λ k _. prefix_self (r.shows k))
        (λ k h. let ne : k ≢ i = λ e. (let one : get_or s.words i 0 ≡ 1 = subst (λ m. get_or s.words m 0 ≡ 1) e h.1 in omega (arith, one, free)) in
        (get_or-set_other s.words i k 1 0 ne ∙ h.1, put_else r.owner i id k ne ∙ h.2, refl)) d (r.seats j d at));
  }

  has_slot : (s : St) (r : Rule s) (i id : ℕ) → i < r.n → HasSlot r.n (set s.words i 1) (put r.owner i id) id i
  has_slot s r i id inside = (inside, get_or-set_same s.words i 1 0 (subst (λ m. i < m) (sym r.wide) inside), put_here r.owner i id)

  pub entering : (slots id i : ℕ) (me : M) (x : List E) (ls : List (List E)) → me.0 ≡ Seated i x ls → Allows Rule slots id me i (λ n. either (eqb n 0) 1 n) (entered listed (step slots i 0 1 none) me)
  entering slots id i me x ls is s r deep at small = let known = sees s r id me.0 (Seated i x ls) at is in let e : ℕ = get_or s.words i 0 in
      exchanged e 0 1 (λ m. (w : Role E) × (a : Act (Option A)) × Valid s.homes me.1 a × Rule (stepped s i m id me.1 w a) × entered listed (step slots i 0 1 none) me e (w, carried_after me.1 a))
      (λ z. let h = r.home i known.0 z in (
        Reading i (listed h.0),
        takes i (Some h.0),
        h.1,
        takes_slot s r i id (Reading i (listed h.0)) known.0 z (sym h.2, has_slot s r i id known.0),
        λ x' ls' is'. let k = sees s r id me.0 (Seated i x' ls') at is' in (
          (λ _. (
            h.0,
            refl,
            refl,
            prefix_trans x' (r.shows i) (listed h.0) k.1 (same_prefix (r.shows i) (listed h.0) (sym h.2)),
            begin_further r.settled (listed h.0) ls' (prefix_trans r.settled (r.shows i) (listed h.0) (r.low i k.0) (same_prefix (r.shows i) (listed h.0) (sym h.2))) k.2,
          )),
          λ ne. absurd (ne z),
        ),
      ))
      (λ ne. (me.0, keeps, tt, idle s r i id me.0 at, λ x' ls' is'. ((λ z. absurd (ne z)), λ _. refl)))

  pub reaching : (slots id i : ℕ) (me : M) (x : List E) → me.0 ≡ Handing x i → i < slots → Allows Rule slots id me i (λ n. either (eqb n 0) 1 n) (reached (step slots i 0 1 none) me)
  reaching slots id i me x is inside s r deep at small = let known = sees s r id me.0 (Handing x i) at is in let e : ℕ = get_or s.words i 0 in
      let l : i < r.n = subst (λ m. i < m) (sym deep ∙ r.deep) inside in
      exchanged e 0 1 (λ m. (w : Role E) × (a : Act (Option A)) × Valid s.homes me.1 a × Rule (stepped s i m id me.1 w a) × reached (step slots i 0 1 none) me e (w, carried_after me.1 a))
      (λ z. let h = r.home i l z in (
        Swapping x i,
        takes i (Some h.0),
        h.1,
        takes_slot s r i id (Swapping x i) l z (known.0, known.1, known.2, has_slot s r i id l),
        λ x' is'. ((λ _. (h.0, ap (λ v. Swapping (list_of v) i) (sym is ∙ is'), refl)), λ ne. absurd (ne z)),
      ))
      (λ ne. (me.0, keeps, tt, idle s r i id me.0 at, λ x' is'. ((λ z. absurd (ne z)), λ _. refl)))

  -- a seat gives the slot i back with the copy a, which shows the list x
  gives_slot : (s : St) (r : Rule s) (i id : ℕ) (w : Role E) (a : A) (x : List E) → HasSlot r.n s.words r.owner id i → listed a ≡ x → IsPrefix (r.shows i) x → IsPrefix x r.latest
      → (id ≢ r.writer → r.shows i ≡ x) → Knows r.n r.latest r.settled (put r.shows i x) (set s.words i 0) r.owner r.writer id w
      → Rule record { words = set s.words i 0; homes = set s.homes i (some (Some a)); views = set s.views id w }
  gives_slot s r i id w a x has is up under own mine = record {
    n = r.n;
    latest = r.latest;
    settled = r.settled;
    shows = put r.shows i x;
    owner = r.owner;
    writer = r.writer;
    wide = length-set s.words i 0 ∙ r.wide;
    deep = length-set s.homes i (some (Some a)) ∙ r.deep;
    low = λ k l. prefix_trans r.settled (r.shows k) (put r.shows i x k) (r.low k l) (ups k);
    high = λ k l. dite (ℕ_discrete k i) (λ e. subst (λ m. IsPrefix (put r.shows i x m) r.latest) (sym e) (subst (λ y. IsPrefix y r.latest) (sym (put_here r.shows i x)) under))
        (λ ne. subst (λ y. IsPrefix y r.latest) (sym (put_else r.shows i x k ne)) (r.high k l));
    home = λ k l z. dite (ℕ_discrete k i) (λ e. (
      a,
      subst (λ m. get_elem? (set s.homes i (some (Some a))) m ≡ some (some (Some a))) (sym e) (set_here s.homes i (some (Some a)) (subst (λ m. i < m) (sym r.deep) has.0)),
      is ∙ (sym (put_here r.shows i x) ∙ ap (put r.shows i x) (sym e)),
    ))
        (λ ne. let h = r.home k l (sym (get_or-set_other s.words i k 0 0 ne) ∙ z) in (h.0, set_else s.homes i k (some (Some a)) ne ∙ h.1, h.2 ∙ sym (put_else r.shows i x k ne)));
    seats = seats_stay (Knows r.n r.latest r.settled (put r.shows i x) (set s.words i 0) r.owner r.writer) s.views id w mine
        (λ j d other at. others r.n r.latest r.settled r.latest r.settled r.shows (put r.shows i x) s.words (set s.words i 0) r.owner r.owner r.writer j
        (λ e. (refl, refl, λ k. dite (ℕ_discrete k i) (λ c. subst (λ m. put r.shows i x m ≡ r.shows m) (sym c) (put_here r.shows i x ∙ sym (own (λ q. other (e ∙ sym q))))) (put_else r.shows i x k)))
        (prefix_self r.settled) (λ k _. ups k)
        (λ k h. let ne : k ≢ i = λ e. other (sym h.2 ∙ (ap r.owner e ∙ has.2)) in (get_or-set_other s.words i k 0 0 ne ∙ h.1, h.2, put_else r.shows i x k ne)) d (r.seats j d at));
  }
    where
      ups : (k : ℕ) → IsPrefix (r.shows k) (put r.shows i x k)
      ups k = dite (ℕ_discrete k i) (λ e. subst (λ m. IsPrefix (r.shows m) (put r.shows i x m)) (sym e) (subst (IsPrefix (r.shows i)) (sym (put_here r.shows i x)) up))
          (λ ne. same_prefix (r.shows k) (put r.shows i x k) (sym (put_else r.shows i x k ne)))

  leaves : (slots id i : ℕ) (x : List E) (a : A) → listed a ≡ x → Allows Rule slots id (Reading i x, (i, Some a) ∷ []) i (λ _. 0) (λ _. returned (step slots i 0 0 none) (Reading i x, (i, Some a) ∷ []) 0)
  leaves slots id i x a shows s r deep at small = let known = r.seats id (Reading i x) at in (
    Seated i x [],
    gives,
    tt,
    gives_slot s r i id (Seated i x []) a x known.1 shows (same_prefix (r.shows i) x known.0) (subst (λ y. IsPrefix y r.latest) known.0 (r.high i known.1.0)) (λ _. known.0)
        (known.1.0, same_prefix x (put r.shows i x i) (sym (put_here r.shows i x)), none_begin r.settled),
    (refl, λ x' is'. ap (λ v. Seated i (list_of v) []) is'),
  )

  pub leaving : (slots id i : ℕ) (me : M) (x : List E) (a : A) → me ≡ (Reading i x, (i, Some a) ∷ []) → listed a ≡ x → Allows Rule slots id me i (λ _. 0) (λ _. returned (step slots i 0 0 none) me 0)
  leaving slots id i me x a is shows = subst (λ m. Allows Rule slots id m i (λ _. 0) (λ _. returned (step slots i 0 0 none) m 0)) (sym is) (leaves slots id i x a shows)

  swaps : (slots id i : ℕ) (x : List E) (a : A) → listed a ≡ x → Allows Rule slots id (Swapping x i, (i, Some a) ∷ []) i (λ _. 0) (λ _. swapped (step slots i 0 0 none) (Swapping x i, (i, Some a) ∷ []) 0)
  swaps slots id i x a shows s r deep at small = let known = r.seats id (Swapping x i) at in (
    Handing x (i + 1),
    gives,
    tt,
    gives_slot s r i id (Handing x (i + 1)) a x known.3 shows (subst (IsPrefix (r.shows i)) known.1 (r.high i known.3.0)) (same_prefix x r.latest (sym known.1)) (λ ne. absurd (ne known.0))
        (known.0, known.1, λ k l. dite (ℕ_discrete k i) (λ e. ap (put r.shows i x) e ∙ put_here r.shows i x) (λ ne. put_else r.shows i x k ne ∙ known.2 k (omega (arith, l, ne)))),
    (refl, λ x' is'. ap (λ v. Handing (list_of v) (i + 1)) is'),
  )

  pub swapping : (slots id i : ℕ) (me : M) (x : List E) (a : A) → me ≡ (Swapping x i, (i, Some a) ∷ []) → listed a ≡ x → Allows Rule slots id me i (λ _. 0) (λ _. swapped (step slots i 0 0 none) me 0)
  swapping slots id i me x a is shows = subst (λ m. Allows Rule slots id m i (λ _. 0) (λ _. swapped (step slots i 0 0 none) m 0)) (sym is) (swaps slots id i x a shows)

  -- a step of the publisher on its own knowledge
  publishes : (s : St) (r : Rule s) (id : ℕ) (w : Role E) (latest' settled' : List E) → id ≡ r.writer → IsPrefix r.settled settled' → IsPrefix r.latest latest' → ((i : ℕ) → i < r.n → IsPrefix settled' (r.shows i))
      → Knows r.n latest' settled' r.shows s.words r.owner r.writer id w → Rule record { words = s.words; homes = s.homes; views = set s.views id w }
  publishes s r id w latest' settled' mine up ups low known = record {
    n = r.n;
    latest = latest';
    settled = settled';
    shows = r.shows;
    owner = r.owner;
    writer = r.writer;
    wide = r.wide;
    deep = r.deep;
    low = low;
    high = λ i l. prefix_trans (r.shows i) r.latest latest' (r.high i l) ups;
    home = r.home;
    seats = seats_stay (Knows r.n latest' settled' r.shows s.words r.owner r.writer) s.views id w known
        (λ j d other at. others r.n r.latest r.settled latest' settled' r.shows r.shows s.words s.words r.owner r.owner r.writer j (λ e. absurd (other (e ∙ sym mine))) up (λ k _. prefix_self (r.shows k))
        (λ k h. (h.1, h.2, refl)) d (r.seats j d at));
  }

  as_read : (s : St) (m i : ℕ) (homes : List (maybe.Option (Option A))) (views : List (Role E)) → m ≡ get_or s.words i 0 → Rule record { words = s.words; homes = homes; views = views } → Rule record { words = set s.words i m; homes = homes; views = views }
  as_read s m i homes views e = subst (λ (ws : List ℕ). Rule record { words = ws; homes = homes; views = views }) (sym (ap (set s.words i) e ∙ set-get_or s.words i 0))

  pub announcing : (slots id : ℕ) (me : M) (x : List E) (a : A) → me.0 ≡ Resting x → IsPrefix x (listed a) → Allows Rule slots id me 0 (λ n. either (eqb n 0) 0 n) (announced listed (step slots 0 0 0 (some (Some a))) me)
  announcing slots id me x a is up s r deep at small = let known = sees s r id me.0 (Resting x) at is in let e : ℕ = get_or s.words 0 0 in (
    Handing (listed a) 0,
    keeps,
    tt,
    as_read s (either (eqb e 0) 0 e) 0 s.homes (set s.views id (Handing (listed a) 0)) (exchanged e 0 0 (λ m. m ≡ e) (λ z. sym z) (λ _. refl))
        (publishes s r id (Handing (listed a) 0) (listed a) r.settled known.0 (prefix_self r.settled) (subst (λ y. IsPrefix y (listed a)) (sym known.1) up) r.low (known.0, refl, λ i l. absurd (omega (arith, l)))),
    (refl, λ x' a' is' said. ap (λ z. Handing (listed z) 0) cc),
  )

  pub resting : (slots id : ℕ) (me : M) (x : List E) → me.0 ≡ Handing x slots → 0 < slots → Allows Rule slots id me 0 (λ n. n) (rested (step slots 0 0 0 none) me)
  resting slots id me x is some_there s r deep at small = let known = sees s r id me.0 (Handing x slots) at is in let n : slots ≡ r.n = sym deep ∙ r.deep in let l : 0 < r.n = subst (λ m. 0 < m) n some_there in (
    Resting x,
    keeps,
    tt,
    as_read s (get_or s.words 0 0) 0 s.homes (set s.views id (Resting x)) refl
        (publishes s r id (Resting x) r.latest r.latest known.0 (prefix_trans r.settled (r.shows 0) r.latest (r.low 0 l) (r.high 0 l)) (prefix_self r.latest)
        (λ i k. same_prefix r.latest (r.shows i) (known.1 ∙ sym (known.2 i (subst (λ m. i < m) (sym n) k)))) (known.0, known.1, known.1)),
    (refl, λ x' is'. ap (λ v. Resting (list_of v)) (sym is ∙ is')),
  )

  pub sitting : (slots i : ℕ) (first : Role E) → i < slots → Enters Rule slots i (λ n w. sat {A = A} (step slots i 0 0 none) (first, []) n (w, []))
  sitting slots i first inside s r deep small = let l : i < r.n = subst (λ m. i < m) (sym deep ∙ r.deep) inside in (
    Seated i [] [],
    record {
      n = r.n;
      latest = r.latest;
      settled = r.settled;
      shows = r.shows;
      owner = r.owner;
      writer = r.writer;
      wide = r.wide;
      deep = r.deep;
      low = r.low;
      high = r.high;
      home = r.home;
      seats = λ j d e. ⊎_elim (r.seats j d) (λ (t : Seated i [] [] ≡ d). subst (Sees s r j) t (l, (r.shows i, refl), none_begin r.settled)) (at_snoc s.views (Seated i [] []) d j e);
    },
    refl,
  )

  front_known : (s : St) (r : Rule s) (id j : ℕ) (v : Role E) → Sees s r id v → Sees s r j (front_of v)
  front_known s r id j (Resting x) k = same_prefix x r.settled (sym k.2)
  front_known s r id j Spent k = tt
  front_known s r id j (Handing x d) k = tt
  front_known s r id j (Swapping x d) k = tt
  front_known s r id j (Seated i x ls) k = tt
  front_known s r id j (Reading i x) k = tt
  front_known s r id j (Noted x) k = tt

  -- a publisher that goes on as it was makes a place that knows no more than it
  pub splits : (f : Role E → Role E) → ((s : St) (r : Rule s) (id j : ℕ) (v : Role E) → Sees s r id v → Sees s r j (f v)) → (id : ℕ) (v : Role E) → Splits Rule id v v (f v)
  splits f known id v s r at = record {
    n = r.n;
    latest = r.latest;
    settled = r.settled;
    shows = r.shows;
    owner = r.owner;
    writer = r.writer;
    wide = r.wide;
    deep = r.deep;
    low = r.low;
    high = r.high;
    home = r.home;
    seats = λ j d e. ⊎_elim (λ (t : get_elem? (set s.views id v) j ≡ some d). r.seats j d (ap (λ (l : List (Role E)). get_elem? l j) (sym (set_again s.views id v at)) ∙ t))
        (λ (t : f v ≡ d). subst (Sees s r j) t (known s r id j v (r.seats id v at))) (at_snoc (set s.views id v) (f v) d j e);
  }

  pub telling : (id : ℕ) (v : Role E) → Splits Rule id v v (front_of v)
  telling = splits front_of front_known

  told_known : (s : St) (r : Rule s) (id other : ℕ) (v w : Role E) → Sees s r id v → Sees s r other w → Sees s r id (told v w)
  told_known s r id other (Seated i x ls) (Noted l) k h = (k.0, k.1, more_begin r.settled l ls h k.2)
  told_known s r id other (Seated i x ls) Spent k h = k
  told_known s r id other (Seated i x ls) (Resting y) k h = k
  told_known s r id other (Seated i x ls) (Handing y d) k h = k
  told_known s r id other (Seated i x ls) (Swapping y d) k h = k
  told_known s r id other (Seated i x ls) (Seated i' y d) k h = k
  told_known s r id other (Seated i x ls) (Reading i' y) k h = k
  told_known s r id other Spent w k h = k
  told_known s r id other (Resting x) w k h = k
  told_known s r id other (Handing x d) w k h = k
  told_known s r id other (Swapping x d) w k h = k
  told_known s r id other (Reading i x) w k h = k
  told_known s r id other (Noted x) w k h = k

  begun_known : (s : St) (r : Rule s) (id other : ℕ) (v w : Role E) → Sees s r id v → Sees s r other w → Sees s r id (begun v w)
  begun_known s r id other (Seated i x ls) (Noted l) k h = (k.0, prefix_trans l r.settled (r.shows i) h (r.low i k.0), k.2)
  begun_known s r id other (Seated i x ls) Spent k h = k
  begun_known s r id other (Seated i x ls) (Resting y) k h = k
  begun_known s r id other (Seated i x ls) (Handing y d) k h = k
  begun_known s r id other (Seated i x ls) (Swapping y d) k h = k
  begun_known s r id other (Seated i x ls) (Seated i' y d) k h = k
  begun_known s r id other (Seated i x ls) (Reading i' y) k h = k
  begun_known s r id other Spent w k h = k
  begun_known s r id other (Resting x) w k h = k
  begun_known s r id other (Handing x d) w k h = k
  begun_known s r id other (Swapping x d) w k h = k
  begun_known s r id other (Reading i x) w k h = k
  begun_known s r id other (Noted x) w k h = k

  joins : (f : Role E → Role E → Role E) → ((s : St) (r : Rule s) (id other : ℕ) (v w : Role E) → Sees s r id v → Sees s r other w → Sees s r id (f v w))
      → (id other : ℕ) (v w : Role E) → Joins Rule id v other w (f v w) Spent
  joins f known id other v w s r at apart there = record {
    n = r.n;
    latest = r.latest;
    settled = r.settled;
    shows = r.shows;
    owner = r.owner;
    writer = r.writer;
    wide = r.wide;
    deep = r.deep;
    low = r.low;
    high = r.high;
    home = r.home;
    seats = seats_stay (Sees s r) (set s.views id (f v w)) other Spent tt
        (λ j d ne e. seats_stay (Sees s r) s.views id (f v w) (known s r id other v w (r.seats id v at) (r.seats other w (sym (set_else s.views id other (f v w) apart) ∙ there)))
        (λ j' d' ne' e'. r.seats j' d' e') j d e);
  }

  pub learning : (id other : ℕ) (v w : Role E) → Joins Rule id v other w (told v w) Spent
  learning = joins told told_known

  pub beginning : (id other : ℕ) (v w : Role E) → Joins Rule id v other w (begun v w) Spent
  beginning = joins begun begun_known

  pub starts : (words : List ℕ) (slots : List (Option A)) (x : List E) → length words ≡ length slots → ((i : ℕ) → i < length slots → (a : A) × (get_elem? slots i ≡ some (Some a)) × (listed a ≡ x)) → Rule (opening words slots (Resting x))
  starts words slots x wide each = record {
    n = length slots;
    latest = x;
    settled = x;
    shows = λ _. x;
    owner = λ _. 0;
    writer = 0;
    wide = wide;
    deep = length-map slots (λ x'. some x');
    low = λ _ _. prefix_self x;
    high = λ _ _. prefix_self x;
    home = λ i l z. let h = each i l in (h.0, at_map some slots i (Some h.0) h.1, h.2);
    seats = first;
  }
    where
      first : (j : ℕ) (d : Role E) → get_elem? (Resting x ∷ []) j ≡ some d → Knows (length slots) x x (λ _. x) words (λ _. 0) 0 j d
      first zero d e = subst (Knows (length slots) x x (λ _. x) words (λ _. 0) 0 0) (some-injective (Resting x) d e) (refl, refl, refl)
      first (suc j) d e = absurd (some-ne-none d (sym e))

module _ {B E A : Type 0} (listed : A → List (Item B E)) where
  ground_known : (s : St listed) (r : Rule listed s) (id j : ℕ) (v : Role (Item B E)) → Sees listed s r id v → Sees listed s r j (base_of v)
  ground_known s r id j (Resting (Base b ∷ x)) k = (x, sym k.2)
  ground_known s r id j (Resting (Entry e ∷ x)) k = tt
  ground_known s r id j (Resting []) k = tt
  ground_known s r id j Spent k = tt
  ground_known s r id j (Handing x d) k = tt
  ground_known s r id j (Swapping x d) k = tt
  ground_known s r id j (Seated i x ls) k = tt
  ground_known s r id j (Reading i x) k = tt
  ground_known s r id j (Noted x) k = tt

  pub grounding : (id : ℕ) (v : Role (Item B E)) → Splits (Rule listed) id v v (base_of v)
  grounding = splits listed base_of ground_known
