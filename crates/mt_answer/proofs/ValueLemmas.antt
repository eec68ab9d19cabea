-- What is asked of values has one answer.
use Rattle.std.proofs.Common.{◌≡◌, ℕ, ◌+◌, ◌<◌, ◌≤◌, ⊎_elim, List, sym, ap, ap₂, ◌∙◌, subst, arith}
use Rattle.std.proofs.lemmas.Bool.{cases_lt}
use Rattle.mt_linear.specs.declared.order.Order.{Order}
use Rattle.mt_derive.specs.declared.events.Event.{Event}
use Rattle.mt_cells.specs.declared.bounds.Bounds.{Bounds}
use Rattle.mt_cells.specs.declared.rules.RuleSet.{RuleSet}
use Rattle.mt_cells.specs.declared.cells.Cell.{Cell}
use Rattle.mt_cells.specs.declared.cells.Cell.TheVariants.{Ooa}
use Rattle.mt_cells.specs.Asks.{IsFrom1}
use Rattle.mt_cells.specs.declared.asks.Ask.{Ask}
use Rattle.mt_cells.specs.declared.asks.Question.TheVariants.{Value}
use Rattle.mt_cells.specs.Asks.{cell_by, IsAsked}
use Rattle.mt_cells.proofs.CellLemmas.{order_same}
use Rattle.mt_derive.specs.Trees.{IsValue}
use Rattle.mt_derive.specs.Values.{IsSince}
use Rattle.mt_derive.specs.Events.{entries_of}
use Rattle.mt_derive.proofs.TreeLemmas.{IsValue-unique}
use Rattle.mt_answer.specs.declared.facts.Facts.{Facts}
use Rattle.mt_answer.specs.declared.facts.Fact.{Fact}
use Rattle.mt_answer.specs.declared.facts.Fact.TheVariants as fact
use Rattle.mt_answer.specs.Facts.{HasNet, IsFact, IsFound}

-- no net with fewer columns has the value
abbrev pub NoneTo : Bounds → RuleSet → List Event → Order → ℕ → ℕ → ℕ → Type 0
NoneTo b rules E o s k before = (m : ℕ) → IsFrom1 b.m_max m → m ≤ before → ¬ HasNet b rules E o s k m

pub none_yet : (b : Bounds) (rules : RuleSet) (E : List Event) (o : Order) (s k before value : ℕ) → NoneTo b rules E o s k before
    → IsValue b rules (entries_of E) (Ooa o (before + 1) s (before + 1)) value → ¬ (k ≤ value) → NoneTo b rules E o s k (before + 1)
none_yet b rules E o s k before value none is low m inside l has = ⊎_elim
    (λ (less : m < before + 1). none m inside (omega arith) has)
    (λ (more : before + 1 ≤ m). let same : m ≡ before + 1 = omega arith in
    let one : has.0 ≡ value = IsValue-unique b rules (entries_of E) (Ooa o (before + 1) s (before + 1)) has.0 value
    (subst (λ z. IsValue b rules (entries_of E) (Ooa o z s z) has.0) same has.1) is in
    low (omega (arith, one, has.2)))
    (cases_lt m (before + 1))

-- the first that has it is the least
pub least_here : (b : Bounds) (rules : RuleSet) (E : List Event) (o : Order) (s k before : ℕ) → NoneTo b rules E o s k before
    → (n : ℕ) → IsFrom1 b.m_max n → HasNet b rules E o s k n → before + 1 ≤ n
least_here b rules E o s k before none n inside has = ⊎_elim
    (λ (less : n < before + 1). absurd (none n inside (omega arith) has))
    (λ (more : before + 1 ≤ n). more)
    (cases_lt n (before + 1))

-- ---- one answer

asked_one : (b : Bounds) (a : Ask) (c d : Cell) → IsAsked b a c → IsAsked b a d → c ≡ d
asked_one b a c d h k = h.cell_is ∙ ap (λ (o : Order). cell_by a.kind o a) (order_same h.order k.order (h.q ∙ sym k.q)) ∙ sym k.cell_is

since_one : (b : Bounds) (rules : RuleSet) (E : List Event) (c : Cell) (i n : ℕ) → IsSince b rules E c i → IsSince b rules E c n → i ≡ n
since_one b rules E c i n h k = ⊎_elim
    (λ (l : i < n). absurd (h.last n l k.within (k.changed (omega arith))))
    (λ (l : n ≤ i). ⊎_elim
    (λ (m : n < i). absurd (k.last i m h.within (h.changed (omega arith))))
    (λ (m : i ≤ n). omega arith)
    (cases_lt n i))
    (cases_lt i n)

fact_one : (b : Bounds) (rules : RuleSet) (E : List Event) (a : Ask) (f g : Fact) → IsFact b rules E (Value a) f → IsFact b rules E (Value a) g → f ≡ g
fact_one b rules E a (fact.Value x j i) (fact.Value y k n) h g =
    let cell : g.1 ≡ h.1 = asked_one b a g.1 h.1 g.2 h.2 in
    let one : j ≡ k = IsValue-unique b rules (entries_of E) h.1 j k h.3 (subst (λ (c : Cell). IsValue b rules (entries_of E) c k) cell g.3) in
    let last : i ≡ n = since_one b rules E h.1 i n h.4 (subst (λ (c : Cell). IsSince b rules E c n) cell g.4) in
    cc (h.0, g.0, one, last)
fact_one b rules E a (fact.Value x j i) (fact.Tree nodes) h g = absurd g
fact_one b rules E a (fact.Value x j i) (fact.Matrix claim) h g = absurd g
fact_one b rules E a (fact.Value x j i) (fact.Sheet text) h g = absurd g
fact_one b rules E a (fact.Value x j i) (fact.LeastM q s k m) h g = absurd g
fact_one b rules E a (fact.Value x j i) fact.Version h g = absurd g
fact_one b rules E a (fact.Tree nodes) g h k = absurd h
fact_one b rules E a (fact.Matrix claim) g h k = absurd h
fact_one b rules E a (fact.Sheet text) g h k = absurd h
fact_one b rules E a (fact.LeastM q s k m) g h i = absurd h
fact_one b rules E a fact.Version g h k = absurd h

-- a question for a value has one answer
pub value_one : (b : Bounds) (rules : RuleSet) (E : List Event) (a : Ask) (f g : Facts) → IsFound b rules E (Value a) f → IsFound b rules E (Value a) g → f ≡ g
value_one b rules E a f g h k = let same : f.fact ≡ g.fact = fact_one b rules E a f.fact g.fact h.1 k.1 in ap₂ (λ n (x : Fact). record { version = n; fact = x }) (h.0 ∙ sym k.0) same
