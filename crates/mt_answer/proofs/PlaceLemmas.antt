-- Places among ascending numbers, and derivations whose nodes are named by them.
use Rattle.std.proofs.Common.{◌≡◌, ℕ, zero, suc, ◌-◌, ◌<◌, ◌≤◌, ◌⊎◌, inl, inr, ⊎_elim, Ok, Err, List, [], ◌∷◌, ◌++◌, length, take, get_or, refl, sym, ap, ◌∙◌, subst, arith}
use Rattle.std.proofs.lemmas.Bool.{cases_lt}
use Rattle.std.proofs.lemmas.List.Elements.{Contains-get_or, at_from_Contains}
use Rattle.std.proofs.lemmas.List.Sorted.{searched}
use Rattle.std.specs.Prelude.{Contains}
use Rattle.std.specs.List.Sorted.{IsBinarySearchResult}
use Rattle.std.specs.Ordering.{nat_cmp}
use Rattle.mt_cells.specs.declared.bounds.Bounds.{Bounds}
use Rattle.mt_cells.specs.declared.cells.Cell.{Cell}
use Rattle.mt_cells.specs.declared.rules.RuleSet.{RuleSet}
use Rattle.mt_derive.specs.Trees.{Axiom, zero_rows, constant, identity, parity, niederreiter, Entry, Tree, axiom_at, imported, one, two, Concludes, IsValue}
use Rattle.mt_derive.specs.declared.nodes.Made.{Made}
use Rattle.mt_derive.specs.declared.nodes.Made.TheVariants as made
use Rattle.mt_derive.specs.declared.nodes.Node.{Node}
use Rattle.mt_derive.specs.Events.{entries_of}
use Rattle.mt_derive.specs.Nodes.{made_of, IsTreeOf, IsRight, IsParent, Reaches, ReachesBy, AreReached}
use Rattle.mt_derive.specs.Concluded.{IsConcluded, AllConclude}
use Rattle.mt_derive.specs.Places.{IsAt}
use Rattle.mt_derive.proofs.PlaceLemmas.{place_some, place_below, place_same, place_push}
use Rattle.mt_derive.proofs.NodeLemmas.{parent_before, reaches_parent, reaches_self}
use Rattle.mt_table.specs.Tables.{Contents, IsServed}
use Rattle.mt_answer.specs.Facts.{IsDerivation}
use Rattle.mt_answer.specs.Places.{IsAscending, StandsAt, IsMadeAmong, IsNodeAmong, AreAmong}

-- ---- places

pub stands_some : (numbers : List ℕ) (n : ℕ) → Contains numbers n → (place : ℕ) × StandsAt numbers place n
stands_some numbers n h = let at = at_from_Contains numbers n h in (at.0, (at.1, at.2 0))

-- a place is at most its number
pub place_low : (numbers : List ℕ) → IsAscending numbers → (place : ℕ) → place < length numbers → place ≤ get_or numbers place 0
place_low numbers up zero l = omega arith
place_low numbers up (suc place) l =
    let low : place ≤ get_or numbers place 0 = place_low numbers up place (omega arith) in
    let more : get_or numbers place 0 < get_or numbers (suc place) 0 = up place (suc place) 0 (omega arith) l in
    omega arith

-- a later place has a greater number
up_by : (numbers : List ℕ) → IsAscending numbers → (a b p q : ℕ) → StandsAt numbers a p → StandsAt numbers b q → a < b → p < q
up_by numbers up a b p q h k l = let more : get_or numbers a 0 < get_or numbers b 0 = up a b 0 l k.0 in omega (arith, h.1, k.1)

-- a number has one place
pub place_one : (numbers : List ℕ) → IsAscending numbers → (a b n : ℕ) → StandsAt numbers a n → StandsAt numbers b n → a ≡ b
place_one numbers up a b n h k = ⊎_elim
    (λ (l : a < b). absurd (let m : n < n = up_by numbers up a b n n h k l in omega arith))
    (λ (l : b ≤ a). ⊎_elim
    (λ (m : b < a). absurd (let x : n < n = up_by numbers up b a n n k h m in omega arith))
    (λ (m : a ≤ b). omega arith)
    (cases_lt b a))
    (cases_lt a b)

-- a lesser number comes before
pub place_before : (numbers : List ℕ) → IsAscending numbers → (a b p q : ℕ) → StandsAt numbers a p → StandsAt numbers b q → p < q → a < b
place_before numbers up a b p q h k l = ⊎_elim
    (λ (m : a < b). m)
    (λ (m : b ≤ a). ⊎_elim
    (λ (x : b < a). absurd (let y : q < p = up_by numbers up b a q p k h x in omega arith))
    (λ (x : a ≤ b). let same : a ≡ b = omega arith in absurd (omega (arith, h.1, k.1, ap (λ z. get_or numbers z 0) same)))
    (cases_lt b a))
    (cases_lt a b)

rises : (numbers : List ℕ) → IsAscending numbers → (i j : ℕ) → i ≤ j → j < length numbers → get_or numbers i 0 ≤ get_or numbers j 0
rises numbers up i j h l = ⊎_elim
    (λ (m : i < j). let less : get_or numbers i 0 < get_or numbers j 0 = up i j 0 m l in omega arith)
    (λ (m : j ≤ i). let same : i ≡ j = omega arith in omega (arith, ap (λ z. get_or numbers z 0) same))
    (cases_lt i j)

-- what a binary search finds, and that it finds a number that is there
pub found_at : (numbers : List ℕ) (n place : ℕ) → IsAscending numbers → IsBinarySearchResult (λ y. nat_cmp y n) numbers (Ok place) → StandsAt numbers place n
found_at numbers n place up h = searched numbers n (Ok place) h (rises numbers up)

pub not_missed : (numbers : List ℕ) (n place : ℕ) → IsAscending numbers → Contains numbers n → ¬ IsBinarySearchResult (λ y. nat_cmp y n) numbers (Err place)
not_missed numbers n place up h missed =
    let at = stands_some numbers n h in
    let apart = searched numbers n (Err place) missed (rises numbers up) in
    ⊎_elim
    (λ (l : at.0 < place). let less : get_or numbers at.0 0 < n = apart.1 at.0 l in omega (arith, at.1.1))
    (λ (l : place ≤ at.0). let more : n < get_or numbers at.0 0 = apart.2 at.0 l at.1.0 in omega (arith, at.1.1))
    (cases_lt at.0 place)

-- the parents of a node that is reached are among the numbers
pub parent_there : (nodes : List Node) (n : ℕ) (numbers : List ℕ) → AreReached nodes n numbers
    → (q p : ℕ) (node : Node) → Contains numbers q → IsAt nodes q node → IsRight (take q nodes) node → IsParent node.made p → Contains numbers p
parent_there nodes n numbers reached q p node h at right e =
    let there = (parent_before nodes q node p right e).1 in
    (reached.each p).1 (reaches_parent nodes n q p node there.0 ((reached.each q).0 h) at e there.1)

-- ---- what nodes are made of

-- an axiom stays
axiom_stays : (numbers : List ℕ) (x : Axiom) (m : Made) → IsMadeAmong numbers (made_of x) m → m ≡ made_of x
axiom_stays numbers zero_rows m h = h
axiom_stays numbers constant m h = h
axiom_stays numbers identity m h = h
axiom_stays numbers parity m h = h
axiom_stays numbers niederreiter m h = h

-- a parent has a place
parent_placed : (numbers : List ℕ) (m k : Made) (p : ℕ) → IsMadeAmong numbers m k → IsParent m p → (place : ℕ) × StandsAt numbers place p × IsParent k place
parent_placed numbers (made.One r n) k p h e = (h.0, rw (← e) h.1, rw h.2 refl)
parent_placed numbers (made.Two r n o) k p h e = ⊎_elim
    (λ (f : n ≡ p). (h.0, rw (← f) h.2, rw h.4 (inl refl)))
    (λ (f : o ≡ p). (h.1, rw (← f) h.3, rw h.4 (inr refl)))
    e
parent_placed numbers made.Zero k p h e = absurd e
parent_placed numbers made.Constant k p h e = absurd e
parent_placed numbers made.Identity k p h e = absurd e
parent_placed numbers made.Parity k p h e = absurd e
parent_placed numbers made.Niederreiter k p h e = absurd e
parent_placed numbers (made.Import i) k p h e = absurd e

-- that place is a parent's
parent_named : (numbers : List ℕ) (m k : Made) (place : ℕ) → IsMadeAmong numbers m k → IsParent k place → (p : ℕ) × StandsAt numbers place p × IsParent m p
parent_named numbers (made.One r n) k place h e =
    let f : h.0 ≡ place = subst (λ (x : Made). IsParent x place) h.2 e in (n, rw (← f) h.1, refl)
parent_named numbers (made.Two r n o) k place h e =
    let f : (h.0 ≡ place) ⊎ (h.1 ≡ place) = subst (λ (x : Made). IsParent x place) h.4 e in
    ⊎_elim (λ (g : h.0 ≡ place). (n, rw (← g) h.2, inl refl)) (λ (g : h.1 ≡ place). (o, rw (← g) h.3, inr refl)) f
parent_named numbers made.Zero k place h e = absurd (subst (λ (x : Made). IsParent x place) h e)
parent_named numbers made.Constant k place h e = absurd (subst (λ (x : Made). IsParent x place) h e)
parent_named numbers made.Identity k place h e = absurd (subst (λ (x : Made). IsParent x place) h e)
parent_named numbers made.Parity k place h e = absurd (subst (λ (x : Made). IsParent x place) h e)
parent_named numbers made.Niederreiter k place h e = absurd (subst (λ (x : Made). IsParent x place) h e)
parent_named numbers (made.Import i) k place h e = absurd (subst (λ (x : Made). IsParent x place) h e)

-- ---- the list

pub one_among : (nodes : List Node) (numbers : List ℕ) (list : List Node) (node : Node) → AreAmong nodes numbers list
    → IsNodeAmong nodes numbers (get_or numbers (length list) 0) node → AreAmong nodes numbers (list ++ node ∷ [])
one_among nodes numbers list node all new place x at = ⊎_elim
    (λ (k : IsAt list place x). all place x k)
    (λ (k : (place ≡ length list) × (node ≡ x)). rw k.0 (subst (λ (y : Node). IsNodeAmong nodes numbers (get_or numbers (length list) 0) y) k.1 new))
    (place_push list node place x at)

module _ (nodes : List Node) (numbers : List ℕ) (list : List Node) (count : length list ≡ length numbers) (all : AreAmong nodes numbers list) where
  -- the node of a number, at its place
  node_at : (place n : ℕ) (old : Node) → StandsAt numbers place n → IsAt nodes n old
      → (node : Node) × IsAt list place node × IsMadeAmong numbers old.made node.made × (node.cell ≡ old.cell) × (node.k ≡ old.k)
  node_at place n old h at =
      let some : (node : Node) × IsAt list place node = place_some list place (omega (arith, h.0, count)) in
      let is : IsNodeAmong nodes numbers n some.0 = subst (λ z. IsNodeAmong nodes numbers z some.0) h.1 (all place some.0 some.1) in
      let same : is.old ≡ old = place_same nodes n is.old old is.place at in
      (some.0, some.1, subst (λ (x : Node). IsMadeAmong numbers x.made some.0.made) same is.made, is.cell ∙ ap (λ (x : Node). x.cell) same, is.k ∙ ap (λ (x : Node). x.k) same)

  -- a node keeps its tree
  tree_among : (t : Tree) (place n : ℕ) → StandsAt numbers place n → IsTreeOf nodes n t → IsTreeOf list place t
  tree_among (axiom_at x c k) place n s h =
      let new = node_at place n h.0 s h.1 in
      (new.0, new.1, axiom_stays numbers x new.0.made (subst (λ (m : Made). IsMadeAmong numbers m new.0.made) h.2 new.2), new.3 ∙ h.3, new.4 ∙ h.4)
  tree_among (imported i) place n s h =
      let new = node_at place n h.0 s h.1 in
      (new.0, new.1, subst (λ (m : Made). IsMadeAmong numbers m new.0.made) h.2 new.2)
  tree_among (one r c t) place n s h =
      let new = node_at place n h.0 s h.1 in
      let is : IsMadeAmong numbers (made.One r h.2) new.0.made = subst (λ (m : Made). IsMadeAmong numbers m new.0.made) h.3 new.2 in
      (new.0, new.1, is.0, is.2, new.3 ∙ h.4, tree_among t is.0 h.2 is.1 h.5)
  tree_among (two r c t u) place n s h =
      let new = node_at place n h.0 s h.1 in
      let is : IsMadeAmong numbers (made.Two r h.2 h.3) new.0.made = subst (λ (m : Made). IsMadeAmong numbers m new.0.made) h.4 new.2 in
      (new.0, new.1, is.0, is.1, is.4, new.3 ∙ h.5, tree_among t is.0 h.2 is.2 h.6, tree_among u is.1 h.3 is.3 h.7)

  -- a node reaches what it reached
  reach_among : IsAscending numbers → (steps n q a b : ℕ) → StandsAt numbers a n → StandsAt numbers b q → ReachesBy nodes steps n q → ReachesBy list steps a b
  reach_among up zero n q a b s t h =
      let new = node_at a n h.0 s h.1 in
      (new.0, new.1, place_one numbers up a b n s (rw h.2 t))
  reach_among up (suc steps) n q a b s t h =
      let new = node_at a n h.0 s h.1 in
      let parent = parent_placed numbers h.0.made new.0.made h.2 new.2 h.3 in
      (new.0, new.1, parent.0, parent.2, reach_among up steps h.2 q parent.0 b parent.1 t h.4)

  -- each is concluded
  concluded_among : (b : Bounds) (rules : RuleSet) (L : List Entry) → AllConclude b rules L nodes → AllConclude b rules L list
  concluded_among b rules L concluded place node at =
      let is : IsNodeAmong nodes numbers (get_or numbers place 0) node = all place node at in
      let x : IsConcluded b rules L nodes (get_or numbers place 0) is.old = concluded (get_or numbers place 0) is.old is.place in
      record {
        tree = x.tree;
        unfolds = tree_among x.tree place (get_or numbers place 0) (omega (arith, count, place_below list place node at), refl) x.unfolds;
        concludes = subst (λ z. Concludes b rules L x.tree node.cell z) (sym is.k)
            (subst (λ (c : Cell). Concludes b rules L x.tree c is.old.k) (sym is.cell) x.concludes);
      }

  -- parents come first
  parents_among : (n : ℕ) → AreReached nodes n numbers → (place p : ℕ) (node : Node) → IsAt list place node → IsParent node.made p → p < place
  parents_among n reached place p node at e =
      let is : IsNodeAmong nodes numbers (get_or numbers place 0) node = all place node at in
      let l : place < length numbers = omega (arith, count, place_below list place node at) in
      let parent = parent_named numbers is.old.made node.made p is.made e in
      place_before numbers reached.ascending p place parent.0 (get_or numbers place 0) parent.1 (l, refl)
      (reached.parents (get_or numbers place 0) is.old parent.0 (Contains-get_or numbers place 0 l) is.place parent.2)

  -- the nodes of what the table names for a cell are a derivation of its greatest value
  pub derivation_among : (t : Contents) (c : Cell) (n : ℕ) → nodes ≡ t.nodes.list → AllConclude t.bounds t.rules (entries_of t.events) t.nodes.list → IsServed t c n
      → AreReached nodes n numbers → IsDerivation t.bounds t.rules t.events c list
  derivation_among t c n shown concluded served reached =
      let at : IsAt nodes n served.node = rw shown served.place in
      let some = stands_some numbers n ((reached.each n).1 (reaches_self nodes n (place_below nodes n served.node at))) in
      let last : StandsAt numbers (length list - 1) n = (omega (arith, count, some.1.0), ap (λ z. get_or numbers (z - 1) 0) count ∙ reached.last) in
      let new = node_at (length list - 1) n served.node last at in
      record {
        concluded = concluded_among t.bounds t.rules (entries_of t.events) (subst (λ (xs : List Node). AllConclude t.bounds t.rules (entries_of t.events) xs) (sym shown) concluded);
        parents = λ place p node. parents_among n reached place p node;
        used = λ place l.
            let here : place < length numbers = omega (arith, count) in
            let reaches : Reaches nodes n (get_or numbers place 0) = (reached.each (get_or numbers place 0)).0 (Contains-get_or numbers place 0 here) in
            (reaches.0, reach_among reached.ascending reaches.0 n (get_or numbers place 0) (length list - 1) place last (here, refl) reaches.1);
        last = new.0;
        place = new.1;
        cell = new.3 ∙ served.cell;
        value = subst (IsValue t.bounds t.rules (entries_of t.events) c) (sym new.4) served.value;
      }
