-- What is put and told of a list of events that grows, and where it stays.
use Rattle.std.proofs.Common.{◌≡◌, ℕ, List, [], ◌∷◌, ◌++◌, map, Option, None, Some, Ok, refl, sym, ap, ◌∙◌, append-nil, append_assoc}
use Rattle.std.specs.List.{AllZip}
use Rattle.std.proofs.lemmas.List.{append_cancel_left}
use Rattle.mt_io.specs.Told.{WhereTold}
use Rattle.mt_keeper.specs.Keeping.{Loads}
use Rattle.mt_cells.specs.declared.bounds.Bounds.{Bounds}
use Rattle.mt_cells.specs.declared.rules.RuleSet.{RuleSet}
use Rattle.mt_feed.specs.Faring.{Fares}
use Rattle.mt_feed.proofs.FaringLemmas.{fares_none}
use Rattle.mt_derive.specs.declared.events.Event.{Event}
use Rattle.mt_service.specs.Records.{StandFor, ArePut, event_text}
use Rattle.mt_service.specs.Telling.{AreLines, AreTold}
use Rattle.mint.specs.Store.{AreLeft, Grows}

abbrev pub Records : Type 0
Records = Option (List (List ℕ))

-- ---- lists that grow by nothing

none_added : (E F : List Event) → E ≡ E ++ F → F ≡ []
none_added E F e = sym (append_cancel_left E [] F (append-nil E ∙ e))

-- ---- records

where_left : (x y : Records) → AreLeft x y → WhereTold x y (λ old new. new ≡ old ++ [])
where_left None None w = tt
where_left None (Some b) w = absurd w
where_left (Some a) None w = tt
where_left (Some a) (Some b) w = w ∙ sym (append-nil a)

left_where : (x y : Records) (A : List (List ℕ)) → A ≡ [] → WhereTold x y (λ old new. new ≡ old ++ A) → AreLeft x y
left_where None None A e w = tt
left_where None (Some b) A e w = absurd w
left_where (Some a) None A e w = tt
left_where (Some a) (Some b) A e w = w ∙ ap (λ (l : List (List ℕ)). a ++ l) e ∙ append-nil a

pub where_both : (x y z : Records) (A B : List (List ℕ)) → WhereTold x y (λ old new. new ≡ old ++ A) → WhereTold y z (λ old new. new ≡ old ++ B)
    → WhereTold x z (λ old new. new ≡ old ++ (A ++ B))
where_both None None None A B v w = tt
where_both None None (Some c) A B v w = absurd w
where_both None (Some b) z A B v w = absurd v
where_both (Some a) None None A B v w = tt
where_both (Some a) None (Some c) A B v w = absurd w
where_both (Some a) (Some b) None A B v w = tt
where_both (Some a) (Some b) (Some c) A B v w = w ∙ ap (λ (l : List (List ℕ)). l ++ B) v ∙ append_assoc a A B

told_on : (x y z : Records) (records A : List (List ℕ)) → WhereTold x y (λ old new. records ≡ old) → WhereTold y z (λ old new. new ≡ old ++ A)
    → WhereTold x z (λ old new. records ≡ old)
told_on None None None records A v w = tt
told_on None None (Some c) records A v w = absurd w
told_on None (Some b) z records A v w = absurd v
told_on (Some a) None None records A v w = tt
told_on (Some a) None (Some c) records A v w = absurd w
told_on (Some a) (Some b) None records A v w = tt
told_on (Some a) (Some b) (Some c) records A v w = v

pub left_same : (x : Records) → AreLeft x x
left_same None = tt
left_same (Some a) = refl

pub left_put : (x y : Records) (E : List Event) → AreLeft x y → ArePut x y E E
left_put x y E left = ([], sym (append-nil E), where_left x y left)

-- a list that stays puts nothing
pub put_left : (x y : Records) (E M : List Event) → ArePut x y E M → M ≡ E → AreLeft x y
put_left x y E M put m =
    left_where x y (map (event_text M) put.0) (ap (λ (F : List Event). map (event_text M) F) (none_added E put.0 (sym m ∙ put.1))) put.2

pub left_put_both : (x y z : Records) (E M : List Event) → AreLeft x y → ArePut y z E M → ArePut x z E M
left_put_both x y z E M left put = (put.0, put.1, where_both x y z [] (map (event_text M) put.0) (where_left x y left) put.2)

pub left_both : (x y z : Records) → AreLeft x y → AreLeft y z → AreLeft x z
left_both x y z v w = left_where x z [] refl (where_both x y z [] [] (where_left x y v) (where_left y z w))

-- ---- openings

pub loads_told : (x y : Records) (records : List (List ℕ)) → Loads {E = Unit {0}} x y (Ok records) → WhereTold x y (λ old new. records ≡ old)
loads_told None None records l = tt
loads_told None (Some b) records l = absurd l
loads_told (Some a) None records l = tt
loads_told (Some a) (Some b) records l = l.1

pub loads_left : (x y : Records) (records : List (List ℕ)) → Loads {E = Unit {0}} x y (Ok records) → AreLeft x y
loads_left None None records l = tt
loads_left None (Some b) records l = absurd l
loads_left (Some a) None records l = tt
loads_left (Some a) (Some b) records l = l.0

pub opened_grows : (b : Bounds) (x y : Records) (records : List (List ℕ)) (E : List Event) → Loads {E = Unit {0}} x y (Ok records) → StandFor b records E → Grows b x y E E
opened_grows b x y records E l stand = record { records = records; told = loads_told x y records l; stand = stand; put = left_put x y E (loads_left x y records l) }

-- an opened store grows by what is put
pub grows_on : (b : Bounds) (x y z : Records) (E M : List Event) → Grows b x y E E → ArePut y z E M → Grows b x z E M
grows_on b x y z E M grows put = record {
  records = grows.records;
  told = told_on x y z grows.records (map (event_text M) put.0) grows.told put.2;
  stand = grows.stand;
  put = left_put_both x y z E M (put_left x y E E grows.put refl) put;
}

-- ---- what feeds are told

module _ {F : Type 0} (b : Bounds) (rules : RuleSet) (told : F → Option (List ℕ)) (failures : F → ℕ) where
  abbrev pub Fare : List Event → List Event → F → F → Type 0
  Fare E G f g = (lines : List ℕ) × AreLines b rules E G lines × Fares told failures lines f g

  fare_same : (E : List Event) (fs : List F) → AllZip (Fare E []) fs fs
  fare_same E [] = tt
  fare_same E (f ∷ fs) = (([], refl, fares_none told failures f), fare_same E fs)

  pub told_none : (E : List Event) (fs : List F) → AreTold b rules told failures E E fs fs
  told_none E fs = record { events = []; grown = sym (append-nil E); fare = fare_same E fs; unchanged = λ e. refl }

  -- a list that stays tells nothing
  pub told_same : (E M : List Event) (old new : List F) → AreTold b rules told failures E M old new → M ≡ E → new ≡ old
  told_same E M old new p m = p.unchanged (none_added E p.events (sym m ∙ p.grown))
