-- What feeds are told of the last event.
use Rattle.std.proofs.Common.{◌≡◌, ◌≢◌, ℕ, ◌+◌, ◌-◌, ◌<◌, ◌≤◌, ⊎_elim, inl, inr, List, [], ◌∷◌, ◌++◌, length, take, drop, get_or, map, refl, sym, ap, ◌∙◌, subst, arith, append-nil, length-set, get_or-drop}
use Rattle.std.specs.Prelude.{◌↔◌, Option, All, AllPairs, Contains}
use Rattle.std.specs.List.{AllZip}
use Rattle.std.proofs.Math.ListN.{set}
use Rattle.std.proofs.lemmas.Bool.{cases_lt}
use Rattle.std.proofs.lemmas.Grind.{flat_map-append}
use Rattle.std.proofs.lemmas.List.{map-append, length_push, take-append-le, take_all, take_more_set, drop-set-lt}
use Rattle.std.proofs.lemmas.List.Quantifiers.{all_pairs_push}
use Rattle.std.proofs.lemmas.List.Elements.{All-nil, All-push, all_zip_more, Contains-append_left, Contains-push_cases, Contains-push, Contains-get_or}
use Rattle.mt_cells.specs.declared.bounds.Bounds.{Bounds}
use Rattle.mt_cells.specs.declared.cells.Cell.{Cell}
use Rattle.mt_cells.specs.declared.rules.RuleSet.{RuleSet}
use Rattle.mt_cells.specs.Cells.{InBounds, number, cells_of}
use Rattle.mt_cells.proofs.CellLemmas.{number_below, number_apart}
use Rattle.mt_derive.specs.declared.events.Event.{Event}
use Rattle.mt_derive.specs.Events.{entries_of}
use Rattle.mt_derive.specs.Trees.{IsValue}
use Rattle.mt_derive.specs.Values.{IsChanged, Changes, IsSince}
use Rattle.mt_feed.specs.declared.Change.{Change}
use Rattle.mt_feed.specs.Lines.{change_line, change_lines}
use Rattle.mt_feed.specs.Faring.{Fares}
use Rattle.mt_feed.proofs.FaringLemmas.{fares_none, fares_both}
use Rattle.mt_service.specs.Telling.{AreChanges, AreLines, AreTold}
use Rattle.mt_service.specs.Accepting.{TellsCell}

-- ---- the last event

module _ (b : Bounds) (rules : RuleSet) (E : List Event) (e : Event) (M : List Event) (grown : M ≡ E ++ e ∷ []) (c : Cell) where
  count : length M ≡ length E + 1
  count = ap length grown ∙ length_push E e

  before : (n : ℕ) → n ≡ length M → take (n - 1) M ≡ E
  before n is =
      let low : n - 1 ≤ length E = omega (arith, is, count) in
      let high : length E ≤ n - 1 = omega (arith, is, count) in
      ap (λ (L : List Event). take (n - 1) L) grown ∙ take-append-le (n - 1) E (e ∷ []) low ∙ take_all (n - 1) E high

  after : (n : ℕ) → n ≡ length M → take n M ≡ M
  after n is = take_all n M (omega (arith, is))

  -- it changed the value, where it is the last that did
  pub changed_last : (n : ℕ) → IsSince b rules M c n → n ≡ length M → IsChanged b rules E M c
  changed_last n since is =
      let x : Changes b rules M c n = since.changed (omega (arith, is, count)) in
      record {
        old = x.old;
        new = x.new;
        before = subst (λ (F : List Event). IsValue b rules (entries_of F) c x.old) (before n is) x.before;
        after = subst (λ (F : List Event). IsValue b rules (entries_of F) c x.new) (after n is) x.after;
        differ = x.differ;
      }

  -- and did not, where it is not
  pub same_last : (n : ℕ) → IsSince b rules M c n → n ≢ length M → ¬ IsChanged b rules E M c
  same_last n since apart x = ⊎_elim
      (λ (l : n < length M). since.last (length M) l (omega arith) (record {
        old = x.old;
        new = x.new;
        before = subst (λ (F : List Event). IsValue b rules (entries_of F) c x.old) (sym (before (length M) refl)) x.before;
        after = subst (λ (F : List Event). IsValue b rules (entries_of F) c x.new) (sym (after (length M) refl)) x.after;
        differ = x.differ;
      }))
      (λ (l : length M ≤ n). absurd (apart (omega (arith, since.within))))
      (cases_lt n (length M))

-- ---- cells by number

module _ (b : Bounds) (rules : RuleSet) (E M : List Event) where
  -- the changes of the cells before number n, in the order of cells
  pub record AreChangesTo (n : ℕ) (changes : List Change) : Type 0 where
    pub ascending : AllPairs (λ c d. number b c < number b d) (map (λ (x : Change). x.cell) changes)
    pub each : (c : Cell) → Contains (map (λ (x : Change). x.cell) changes) c ↔ (InBounds b c × (number b c < n) × IsChanged b rules E M c)
    pub says : All (λ (x : Change). (x.version ≡ length M) × IsValue b rules (entries_of M) x.cell x.k) changes

  pub changes_none : AreChangesTo 0 []
  changes_none = record {
    ascending = λ i j d l k. absurd (omega arith);
    each = λ c. (λ k. absurd (omega (arith, k.1)), λ k. absurd (omega (arith, k.1)));
    says = All-nil (λ (x : Change). (x.version ≡ length M) × IsValue b rules (entries_of M) x.cell x.k);
  }

  changes_push : (n : ℕ) (c : Cell) (k : ℕ) (changes : List Change) → InBounds b c → number b c ≡ n → IsChanged b rules E M c → IsValue b rules (entries_of M) c k
      → AreChangesTo n changes → AreChangesTo (n + 1) (changes ++ record { version = length M; cell = c; k = k } ∷ [])
  changes_push n c k changes inside is changed value a = record {
    ascending = subst (λ (l : List Cell). AllPairs (λ c d. number b c < number b d) l) (sym grown)
        (all_pairs_push (λ x y. number b x < number b y) cells c a.ascending (λ i d l. rw is ((a.each _).0 (Contains-get_or cells i d l)).1));
    each = λ y. subst (λ (l : List Cell). Contains l y ↔ (InBounds b y × (number b y < n + 1) × IsChanged b rules E M y)) (sym grown) (
      λ h. ⊎_elim
          (λ (l : Contains cells y). let z = (a.each y).0 l in (z.0, omega (arith, z.1), z.2))
          (λ (l : c ≡ y). rw (sym l, is) (inside, omega arith, changed))
          (Contains-push_cases cells c y h),
      λ h. ⊎_elim
          (λ (l : number b y < n). Contains-append_left cells (c ∷ []) y ((a.each y).1 (h.0, l, h.2)))
          (λ (l : n ≤ number b y). let same : y ≡ c = number_apart b y c h.0 inside (omega (arith, h.1, is)) in rw same (Contains-push cells c))
          (cases_lt (number b y) n),
    );
    says = All-push (λ (x : Change). (x.version ≡ length M) × IsValue b rules (entries_of M) x.cell x.k) changes change a.says (refl, value);
  }
    where
      change : Change
      change = record { version = length M; cell = c; k = k }

      cells : List Cell
      cells = map (λ (x : Change). x.cell) changes

      grown : map (λ (x : Change). x.cell) (changes ++ change ∷ []) ≡ cells ++ c ∷ []
      grown = map-append (λ (x : Change). x.cell) changes (change ∷ [])

  changes_skip : (n : ℕ) (c : Cell) (changes : List Change) → InBounds b c → number b c ≡ n → (¬ IsChanged b rules E M c) → AreChangesTo n changes → AreChangesTo (n + 1) changes
  changes_skip n c changes inside is same a = record {
    ascending = a.ascending;
    each = λ y. (
      λ h. let z = (a.each y).0 h in (z.0, omega (arith, z.1), z.2),
      λ h. ⊎_elim
          (λ (l : number b y < n). (a.each y).1 (h.0, l, h.2))
          (λ (l : n ≤ number b y).
          let here : y ≡ c = number_apart b y c h.0 inside (omega (arith, h.1, is)) in
          absurd (same (subst (λ (d : Cell). IsChanged b rules E M d) here h.2)))
          (cases_lt (number b y) n),
    );
    says = a.says;
  }

  changes_whole : (n : ℕ) (changes : List Change) → cells_of b ≤ n → AreChangesTo n changes → AreChanges b rules E M changes
  changes_whole n changes all a = record {
    cells = record {
      ascending = a.ascending;
      each = λ c. (
        λ h. let z = (a.each c).0 h in (z.0, z.2),
        λ h. (a.each c).1 (h.0, omega (arith, number_below b c h.0), h.1),
      );
    };
    each = a.says;
  }

  -- ---- one feed

  module _ {F : Type 0} (told : F → Option (List ℕ)) (faults : F → ℕ) where
    -- the feed fared as one that is told the changes of the cells before number n
    abbrev pub TellsTo : ℕ → F → F → Type 0
    TellsTo n old new = (changes : List Change) × AreChangesTo n changes × Fares told faults (change_lines changes) old new

    pub tells_none : (feed : F) → TellsTo 0 feed feed
    tells_none feed = ([], changes_none, fares_none told faults feed)

    pub tells_more : (n : ℕ) (c : Cell) (old mid new : F) → InBounds b c → number b c ≡ n → TellsTo n old mid → TellsCell b rules told faults E M c mid new → TellsTo (n + 1) old new
    tells_more n c old mid new inside is (changes, are, fares) (inl (k, changed, value, f)) = (
      changes ++ record { version = length M; cell = c; k = k } ∷ [],
      changes_push n c k changes inside is changed value are,
      subst (λ (text : List ℕ). Fares told faults text old new) (sym lines) (fares_both told faults old mid new (change_lines changes) (change_line change) fares f),
    )
      where
        change : Change
        change = record { version = length M; cell = c; k = k }

        lines : change_lines (changes ++ change ∷ []) ≡ change_lines changes ++ change_line change
        lines = flat_map-append change_line changes (change ∷ []) ∙ ap (λ (z : List ℕ). change_lines changes ++ z) (append-nil (change_line change))
    tells_more n c old mid new inside is (changes, are, fares) (inr (same, stays)) =
        (changes, changes_skip n c changes inside is same are, subst (λ (f : F). Fares told faults (change_lines changes) old f) (sym stays) fares)

    pub tells_whole : (n : ℕ) (old new : F) → cells_of b ≤ n → TellsTo n old new → (changes : List Change) × AreChanges b rules E M changes × Fares told faults (change_lines changes) old new
    tells_whole n old new all (changes, are, fares) = (changes, changes_whole n changes all are, fares)

-- ---- all feeds

-- the feeds before number i fared so, and the others are as before
pub record AllTelling {F : Type 0} (R : F → F → Type 0) (i : ℕ) (old new : List F) : Type 0 where
  pub count : length new ≡ length old
  pub done : AllZip R (take i old) (take i new)
  pub rest : (k : ℕ) → i ≤ k → drop k new ≡ drop k old

zero_more : (i : ℕ) → i + 0 ≡ i
zero_more i = omega arith

module _ {F : Type 0} (R : F → F → Type 0) where
  pub telling_none : (old : List F) → AllTelling R 0 old old
  telling_none old = record { count = refl; done = tt; rest = λ k h. refl }

  pub telling_more : (i : ℕ) (old new : List F) (x y : F) → i < length old → AllTelling R i old new → x ≡ get_or new i x → R x y → AllTelling R (i + 1) old (set new i y)
  telling_more i old new x y h a e f = record {
    count = length-set new i y ∙ a.count;
    done = rw (take_more_set new i y (omega (arith, a.count))) (all_zip_more R old (take i new) i x y h (e ∙ same) a.done f);
    rest = λ k l. drop-set-lt k new i y (omega arith) ∙ a.rest k (omega arith);
  }
    where
      same : get_or new i x ≡ get_or old i x
      same = subst (λ n. get_or new n x ≡ get_or old n x) (zero_more i) (sym (get_or-drop i new 0 x) ∙ ap (λ z. get_or z 0 x) (a.rest i (omega arith)) ∙ get_or-drop i old 0 x)

  pub telling_whole : (i : ℕ) (old new : List F) → length old ≤ i → AllTelling R i old new → AllZip R old new
  telling_whole i old new l a = rw (take_all i old (omega arith), take_all i new (omega (arith, a.count))) at a.done

zip_map : {F : Type 0} (R S : F → F → Type 0) → ((f g : F) → R f g → S f g) → (xs ys : List F) → AllZip R xs ys → AllZip S xs ys
zip_map R S up [] [] h = tt
zip_map R S up [] (y ∷ ys) h = absurd h
zip_map R S up (x ∷ xs) [] h = absurd h
zip_map R S up (x ∷ xs) (y ∷ ys) h = (up x y h.0, zip_map R S up xs ys h.1)

module _ (b : Bounds) (rules : RuleSet) {F : Type 0} (told : F → Option (List ℕ)) (faults : F → ℕ) where
  -- each feed is told the changes of the last event
  pub told_last : (E : List Event) (e : Event) (M : List Event) (old new : List F) → M ≡ E ++ e ∷ []
      → AllZip (λ f g. (changes : List Change) × AreChanges b rules E M changes × Fares told faults (change_lines changes) f g) old new → AreTold b rules told faults E M old new
  told_last E e M old new grown all = record {
    events = e ∷ [];
    grown = grown;
    fare = zip_map _ _ lines old new all;
    unchanged = λ none. absurd (let n = ap length none in omega arith);
  }
    where
      lines : (f g : F) → (changes : List Change) × AreChanges b rules E M changes × Fares told faults (change_lines changes) f g
          → (text : List ℕ) × AreLines b rules E (e ∷ []) text × Fares told faults text f g
      lines f g (changes, are, fares) = (
        change_lines changes ++ [],
        (changes, [], subst (λ (L : List Event). AreChanges b rules E L changes) grown are, refl, refl),
        subst (λ (text : List ℕ). Fares told faults text f g) (sym (append-nil (change_lines changes))) fares,
      )

  none_told : (E : List Event) (feeds : List F) → AllZip (λ f g. (text : List ℕ) × AreLines b rules E [] text × Fares told faults text f g) feeds feeds
  none_told E [] = tt
  none_told E (f ∷ fs) = (([], refl, fares_none told faults f), none_told E fs)

  -- no feed is told anything
  pub told_nothing : (E : List Event) (feeds : List F) → AreTold b rules told faults E E feeds feeds
  told_nothing E feeds = record { events = []; grown = sym (append-nil E); fare = none_told E feeds; unchanged = λ none. refl }
