-- Two growths of a list of events in a row are one: what is put, and what is told.
use Rattle.std.proofs.Common.{◌≡◌, ℕ, ◌-◌, ◌≤◌, List, [], ◌∷◌, ◌++◌, length, map, get_or, Option, None, Some, refl, sym, ap, ap₂, ◌∙◌, subst, arith, append-nil, append_assoc}
use Rattle.std.specs.List.{AllZip}
use Rattle.std.proofs.lemmas.List.{map-append, length-map, get_or_append_left}
use Rattle.mt_io.specs.Told.{WhereTold}
use Rattle.mt_system.specs.Statements.{Statement}
use Rattle.mt_cells.specs.declared.bounds.Bounds.{Bounds}
use Rattle.mt_cells.specs.declared.rules.RuleSet.{RuleSet}
use Rattle.mt_import.specs.Withdrawals.{withdraw_text}
use Rattle.mt_feed.specs.Lines.{change_lines}
use Rattle.mt_feed.proofs.FaringLemmas.{fares_both}
use Rattle.mt_derive.specs.declared.events.Event.{Event}
use Rattle.mt_derive.specs.declared.events.Event.TheVariants.{Import, Withdraw}
use Rattle.mt_derive.specs.Events.{imports_of}
use Rattle.mt_derive.proofs.EventLemmas.{imports_append}
use Rattle.mt_service.specs.Steps.{IsAccepted}
use Rattle.mt_service.specs.Records.{AreAccepted, IsKept, ArePut, name_of, event_text}
use Rattle.mt_service.specs.Telling.{AreLines, AreTold}
use Rattle.mint.proofs.ChainLemmas.{Records, where_both, Fare}

-- ---- the texts of events, as the list grows

-- the list begins with these events
abbrev Begins : List Event → List Event → Type 0
Begins D P = (R : List Event) × (P ≡ D ++ R)

begins_less : (D F P : List Event) → Begins (D ++ F) P → Begins D P
begins_less D F P (R, is) = (F ++ R, is ∙ append_assoc D F R)

begins_next : (D : List Event) (e : Event) (F P : List Event) → Begins (D ++ e ∷ F) P → Begins ((D ++ e ∷ []) ++ F) P
begins_next D e F P (R, is) = (R, is ∙ ap (λ (L : List Event). L ++ R) (sym (append_assoc D (e ∷ []) F)))

-- the name of an import stays
name_same : (D P : List Event) (n : ℕ) → Begins D P → 1 ≤ n → n ≤ length (imports_of D) → name_of P n ≡ name_of D n
name_same D P n (R, is) low high =
    let name : Statement → List ℕ = λ c. c.name in
    ap (λ (L : List Event). name_of L n) is
    ∙ ap (λ (L : List Statement). get_or (map name L) (n - 1) []) (imports_append D R)
    ∙ ap (λ (l : List (List ℕ)). get_or l (n - 1) []) (map-append name (imports_of D) (imports_of R))
    ∙ get_or_append_left (map name (imports_of D)) (map name (imports_of R)) [] (n - 1) (omega (arith, length-map (imports_of D) name, low, high))

text_same : (b : Bounds) (D P Q : List Event) (text : List ℕ) (e : Event) → IsAccepted b D text e → Begins D P → Begins D Q → event_text P e ≡ event_text Q e
text_same b D P Q text (Import c) a p q = refl
text_same b D P Q text (Withdraw n) a p q =
    let live = a.2 in ap withdraw_text (name_same D P n p live.0 live.1 ∙ sym (name_same D Q n q live.0 live.1))

-- the texts of events that were accepted are the same over any longer lists
texts_same : (b : Bounds) (D : List Event) (texts : List (List ℕ)) (E F P Q : List Event) → AreAccepted b D texts (E ++ F)
    → Begins (D ++ (E ++ F)) P → Begins (D ++ (E ++ F)) Q → map (event_text P) F ≡ map (event_text Q) F
texts_same b D [] [] [] P Q a p q = refl
texts_same b D [] [] (e ∷ F) P Q a p q = absurd a
texts_same b D [] (e ∷ E) F P Q a p q = absurd a
texts_same b D (t ∷ ts) [] [] P Q a p q = refl
texts_same b D (t ∷ ts) [] (e ∷ F) P Q a p q =
    ap₂ (λ (x : List ℕ) (xs : List (List ℕ)). x ∷ xs) (text_same b D P Q t e a.0 (begins_less D (e ∷ F) P p) (begins_less D (e ∷ F) Q q))
    (texts_same b (D ++ e ∷ []) ts [] F P Q a.1 (begins_next D e F P p) (begins_next D e F Q q))
texts_same b D (t ∷ ts) (e ∷ E) F P Q a p q =
    texts_same b (D ++ e ∷ []) ts E F P Q a.1 (begins_next D e (E ++ F) P p) (begins_next D e (E ++ F) Q q)

-- ---- what is put

put_texts : (b : Bounds) (y : Records) (E F G L M : List Event) → IsKept b y L → L ≡ E ++ F → M ≡ L ++ G → (x z : Records)
    → WhereTold x y (λ old new. new ≡ old ++ map (event_text L) F) → WhereTold y z (λ old new. new ≡ old ++ map (event_text M) G)
    → WhereTold x z (λ old new. new ≡ old ++ map (event_text M) (F ++ G))
put_texts b None E F G L M kept l m None None v w = tt
put_texts b None E F G L M kept l m (Some a) None v w = tt
put_texts b None E F G L M kept l m None (Some c) v w = absurd w
put_texts b None E F G L M kept l m (Some a) (Some c) v w = absurd w
put_texts b (Some records) E F G L M kept l m x z v w =
    subst (λ (texts : List (List ℕ)). WhereTold x z (λ old new. new ≡ old ++ texts)) same
    (where_both x (Some records) z (map (event_text L) F) (map (event_text M) G) v w)
  where
    texts : map (event_text L) F ≡ map (event_text M) F
    texts = texts_same b [] records E F L M (subst (λ (K : List Event). AreAccepted b [] records K) l kept.accepted)
        ([], l ∙ sym (append-nil (E ++ F))) (G, m ∙ ap (λ (K : List Event). K ++ G) l)

    same : map (event_text L) F ++ map (event_text M) G ≡ map (event_text M) (F ++ G)
    same = ap (λ (t : List (List ℕ)). t ++ map (event_text M) G) texts ∙ sym (map-append (event_text M) F G)

pub put_both : (b : Bounds) (x y z : Records) (E L M : List Event) → IsKept b y L → ArePut x y E L → ArePut y z L M → ArePut x z E M
put_both b x y z E L M kept (F, l, v) (G, m, w) = (
  F ++ G,
  m ∙ ap (λ (K : List Event). K ++ G) l ∙ append_assoc E F G,
  put_texts b y E F G L M kept l m x z v w,
)

-- ---- what feeds are told

zip_both : {F : Type 0} (R S T : F → F → Type 0) → ((f g h : F) → R f g → S g h → T f h) → (xs ys zs : List F) → AllZip R xs ys → AllZip S ys zs → AllZip T xs zs
zip_both R S T both [] [] [] p q = tt
zip_both R S T both [] [] (z ∷ zs) p q = absurd q
zip_both R S T both [] (y ∷ ys) zs p q = absurd p
zip_both R S T both (x ∷ xs) [] zs p q = absurd p
zip_both R S T both (x ∷ xs) (y ∷ ys) [] p q = absurd q
zip_both R S T both (x ∷ xs) (y ∷ ys) (z ∷ zs) p q = (both x y z p.0 q.0, zip_both R S T both xs ys zs p.1 q.1)

both_none : (F G : List Event) → F ++ G ≡ [] → (F ≡ []) × (G ≡ [])
both_none [] G none = (refl, none)
both_none (f ∷ F) G none = absurd (cc none)

module _ (b : Bounds) (rules : RuleSet) where
  lines_both : (E F G : List Event) (xs ys : List ℕ) → AreLines b rules E F xs → AreLines b rules (E ++ F) G ys → AreLines b rules E (F ++ G) (xs ++ ys)
  lines_both E [] G xs ys p q =
      subst (λ (l : List ℕ). AreLines b rules E G (l ++ ys)) (sym p) (subst (λ (K : List Event). AreLines b rules K G ys) (append-nil E) q)
  lines_both E (e ∷ F) G xs ys (changes, rest, are, lines, is) q = (
    changes,
    rest ++ ys,
    are,
    lines_both (E ++ e ∷ []) F G rest ys lines (subst (λ (K : List Event). AreLines b rules K G ys) (sym (append_assoc E (e ∷ []) F)) q),
    ap (λ (l : List ℕ). l ++ ys) is ∙ append_assoc (change_lines changes) rest ys,
  )

  module _ {T : Type 0} (told : T → Option (List ℕ)) (failures : T → ℕ) where
    fare_both : (E L F G : List Event) → L ≡ E ++ F → (f g h : T) → Fare b rules told failures E F f g → Fare b rules told failures L G g h
        → Fare b rules told failures E (F ++ G) f h
    fare_both E L F G l f g h (xs, x, p) (ys, y, q) =
        (xs ++ ys, lines_both E F G xs ys x (subst (λ (K : List Event). AreLines b rules K G ys) l y), fares_both told failures f g h xs ys p q)

    pub told_both : (E L M : List Event) (old mid new : List T) → AreTold b rules told failures E L old mid → AreTold b rules told failures L M mid new
        → AreTold b rules told failures E M old new
    told_both E L M old mid new p q = record {
      events = p.events ++ q.events;
      grown = q.grown ∙ ap (λ (K : List Event). K ++ q.events) p.grown ∙ append_assoc E p.events q.events;
      fare = zip_both (Fare b rules told failures E p.events) (Fare b rules told failures L q.events) (Fare b rules told failures E (p.events ++ q.events))
          (fare_both E L p.events q.events p.grown) old mid new p.fare q.fare;
      unchanged = λ none. let parts = both_none p.events q.events none in q.unchanged parts.1 ∙ p.unchanged parts.0;
    }
