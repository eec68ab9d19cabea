use Rattle.std.proofs.Common.{◌≡◌, ℕ, suc, ◌+◌, ◌-◌, ◌*◌, ◌<◌, ◌≤◌, List, length, get_or, replicate, refl, sym, ap, ◌∙◌, arith, subst, length-drop}
use Rattle.std.specs.Bool.{OnTrue}
use Rattle.std.proofs.lemmas.List.{length-take-le}
use Rattle.std.proofs.Math.ListN.{set}
use borrow.Rule.Slice.PartMut.{put_mid}
use Rattle.std.proofs.Math.Nat.{mul-le-mul_left}
use Rattle.mt_system.specs.Rows.{rows_by}
use Rattle.mt_strength.specs.Searches.{AllIndependent, IsFound}
use Rattle.mt_strength.specs.Walks.{OthersIndependent, start_of, count_of, digits_in}
use Rattle.mt_strength.proofs.ClearedChoices.{all_one, all_left, found_left, zero_row}
use Rattle.mt_strength.proofs.SearchLemmas.{raised, IsFound-one}
use Rattle.mt_strength.proofs.SuffixLemmas.{suffix, all_suffix, all_whole, others_suffix, found_suffix, start_within, IsLaid-suffix, written, length-written}
use Rattle.mt_strength.proofs.WalkLemmas.{all_empty, all_others, all_raised, found_raised, IsLaid-left, room_behind, room_left, slice_behind, digit_some}
use Rattle.mt_strength.proofs.walks.+walking.Goals as goal

pub walk-returns-then-n-eq0-clause-independent : goal.walk-returns-then-n-eq0-clause-independent
walk-returns-then-n-eq0-clause-independent t c = all_empty c.args.order (digits_in c.args.order c.args.rows.now c.args.first c.args.each) c.args.first c.args.others c.args.each c.args.n c.if-n-eq0.true

pub walk-rows_from-rest-requires : goal.walk-rows_from-rest-requires
walk-rows_from-rest-requires t c =
    let test = c.loop-i-test.true in
    let within = c.loop-i.invariant.within in
    start_within c.args.first c.args.others c.args.each (c.loop-i.i - 1) (length c.args.rows.now) (omega arith) c.requires.laid.size

pub walk-walk_first-requires : goal.walk-walk_first-requires
walk-walk_first-requires t c =
    let o = c.args.order in
    let i = c.loop-i.i - 1 in
    let test = c.loop-i-test.true in
    let within = c.loop-i.invariant.within in
    let from : i ≤ c.args.others = omega arith in
    let none = c.if-n-eq0.false in
    let rows = c.rows_from-rest.ensures in
    let own = c.count-own.ensures in
    let sizes = c.requires.sizes in
    let same = c.loop-i.auto.sizes in
    let room = c.loop-i.auto.room in
    let all = c.loop-i.auto.all in
    let M = digits_in o c.args.rows.now c.args.first c.args.each in
    let next : c.loop-i.i ≡ suc i = omega arith in (
      let d = c.decreases in omega arith,
      (
        rw (rows, own) (IsLaid-suffix o c.args.rows.now c.args.first c.args.others c.args.each i from c.requires.laid),
        (
          omega arith,
          (
            c.requires.few,
            (
              rw (slice_behind c.loop-i.sizes i) (omega (arith, length-drop i c.loop-i.sizes)),
              (
                rw rows (room_behind c.args.rows.now (start_of c.args.first c.args.each i) c.args.n (length c.loop-i.room) (let h = c.requires.room in omega arith)),
                (
                  let m = c.requires.multiples in omega arith,
                  subst (λ m. OthersIndependent o (rows_by (digits_in o c.rows_from-rest.result.now m c.args.each)) m (c.args.others - i) c.args.each c.args.n) (sym own)
                      (subst (λ (r : List ℕ). OthersIndependent o (rows_by (digits_in o r (count_of c.args.first c.args.each i) c.args.each)) (count_of c.args.first c.args.each i) (c.args.others - i) c.args.each c.args.n) (sym rows)
                      (others_suffix o c.args.rows.now c.args.first c.args.others c.args.each c.args.n i from
                      (λ l. subst (λ m. AllIndependent o (rows_by (suffix M m)) (count_of c.args.first c.args.each m) (c.args.others - m) c.args.each c.args.n) next (c.loop-i.invariant.behind (omega arith))))),
                ),
              ),
            ),
          ),
        ),
      ),
    )

pub walk-returns-then-not-walk_first-clause-found : goal.walk-returns-then-not-walk_first-clause-found
walk-returns-then-not-walk_first-clause-found t c =
    let o = c.args.order in
    let i = c.loop-i.i - 1 in
    let test = c.loop-i-test.true in
    let within = c.loop-i.invariant.within in
    let from : i ≤ c.args.others = omega arith in
    let sizes = c.requires.sizes in
    let same = c.loop-i.auto.sizes in
    let shorter : i ≤ length c.loop-i.sizes = omega arith in
    let long : length c.walk_first.new.sizes ≡ length c.loop-i.sizes - i = c.if-not-walk_first.ensures.size ∙ ap length (slice_behind c.loop-i.sizes i) ∙ omega (arith, length-drop i c.loop-i.sizes) in
    let p = put_mid i (length c.loop-i.sizes - i) c.loop-i.sizes c.walk_first.new.sizes in
    let zeros : c.fill.new.self ≡ replicate i 0 =
    c.fill.ensures.after (λ y h. h) ∙ ap (λ n. replicate n 0) (length-take-le i p (let h = length-written c.loop-i.sizes c.walk_first.new.sizes i shorter long in omega arith)) in
    subst (IsFound o (rows_by (digits_in o c.args.rows.now c.args.first c.args.each)) c.args.first c.args.others c.args.each c.args.n)
    (sym (written c.loop-i.sizes c.fill.new.self c.walk_first.new.sizes i shorter zeros))
    (found_suffix o c.args.rows.now c.args.first c.args.others c.args.each c.args.n i c.walk_first.new.sizes from
    (subst (λ (r : List ℕ). IsFound o (rows_by (digits_in o r (count_of c.args.first c.args.each i) c.args.each)) (count_of c.args.first c.args.each i) (c.args.others - i) c.args.each c.args.n c.walk_first.new.sizes) c.rows_from-rest.ensures
    (subst (λ m. IsFound o (rows_by (digits_in o c.rows_from-rest.result.now m c.args.each)) m (c.args.others - i) c.args.each c.args.n c.walk_first.new.sizes) c.count-own.ensures c.if-not-walk_first.ensures.found)))

pub walk-loop-i-preserved : goal.walk-loop-i-preserved
walk-loop-i-preserved t c =
    let o = c.args.order in
    let i = c.loop-i.i - 1 in
    let within = c.loop-i.invariant.within in
    record {
      within = omega arith;
      behind = λ l. all_suffix o c.args.rows.now c.args.first c.args.others c.args.each c.args.n i
          (subst (λ (r : List ℕ). AllIndependent o (rows_by (digits_in o r (count_of c.args.first c.args.each i) c.args.each)) (count_of c.args.first c.args.each i) (c.args.others - i) c.args.each c.args.n) c.rows_from-rest.ensures
          (subst (λ m. AllIndependent o (rows_by (digits_in o c.rows_from-rest.result.now m c.args.each)) m (c.args.others - i) c.args.each c.args.n) c.count-own.ensures c.if-not-walk_first.ensures.independent));
    }

pub walk-returns-clause-independent : goal.walk-returns-clause-independent
walk-returns-clause-independent t c =
    let test = c.loop-i-test.false in
    all_whole c.args.order (digits_in c.args.order c.args.rows.now c.args.first c.args.each) c.args.first c.args.others c.args.each c.args.n c.loop-i.i (omega arith) (c.loop-i.invariant.behind (omega arith))

pub walk_first-returns-then-first-eq0-clause-independent : goal.walk_first-returns-then-first-eq0-clause-independent
walk_first-returns-then-first-eq0-clause-independent t c =
    all_others c.args.order c.args.rows.now c.args.first c.args.others c.args.each c.args.n c.if-first-eq0.true c.requires.others

pub walk_first-returns-in_default-clause-found : goal.walk_first-returns-in_default-clause-found
walk_first-returns-in_default-clause-found t c =
    let ne = c.if-first-eq0.false in
    let R = rows_by (digits_in c.args.order c.args.rows.now c.args.first c.args.each) in
    let e : length c.args.sizes.now ≡ suc c.args.others = let h = c.requires.sizes in omega arith in
    let zeros : c.fill.new.self ≡ replicate (suc c.args.others) 0 = c.fill.ensures.after (λ y h. h) ∙ ap (λ n. replicate n 0) e in
    rw (ap (λ (s : List ℕ). set s 0 1) zeros)
    (IsFound-one c.args.order R c.args.first c.args.others c.args.each c.args.n (omega arith) c.requires.some c.requires.others
    (zero_row c.args.order c.args.rows.now c.args.first c.args.others c.args.each (λ k. sym (ap (λ (r : List ℕ). get_or r k 0) c.read_row.ensures) ∙ c.in_default.ensures k)))

pub walk_first-returns-then-n-eq1-clause-independent : goal.walk_first-returns-then-n-eq1-clause-independent
walk_first-returns-then-n-eq1-clause-independent t c =
    let ne = c.if-first-eq0.false in
    let some : 0 < c.args.first = omega arith in
    let R = rows_by (digits_in c.args.order c.args.rows.now c.args.first c.args.each) in
    let one : 0 ≡ c.args.n - 1 = let e = c.if-n-eq1.true in omega arith in
    all_raised c.args.order R c.args.first c.args.others c.args.each c.args.n some c.requires.some c.requires.others
    (subst (λ m. AllIndependent c.args.order (λ d. R (raised d)) (c.args.first - 1) c.args.others c.args.each m) one
    (all_one c.args.order c.args.rows.now c.args.first c.args.others c.args.each c.in-Some.place c.requires.laid some
    (digit_some c.args.order c.args.rows.now c.read_row.result c.in-Some.place c.read_row.ensures (c.requires.laid.of_first 0 some) c.in-Some.ensures.1)))

pub walk_first-walk_pairs-requires-clause-others : goal.walk_first-walk_pairs-requires-clause-others
walk_first-walk_pairs-requires-clause-others t c =
    subst (OthersIndependent c.args.order (rows_by (digits_in c.args.order c.args.rows.now c.args.first c.args.each)) c.args.first c.args.others c.args.each) c.if-n-eq2.true c.requires.others

pub walk_first-returns-then-n-eq2-clause-independent : goal.walk_first-returns-then-n-eq2-clause-independent
walk_first-returns-then-n-eq2-clause-independent t c =
    subst (λ n. OnTrue c.walk_pairs.result (AllIndependent c.args.order (rows_by (digits_in c.args.order c.args.rows.now c.args.first c.args.each)) c.args.first c.args.others c.args.each n)) (sym c.if-n-eq2.true) c.walk_pairs.ensures.independent

pub walk_first-walk-requires : goal.walk_first-walk-requires
walk_first-walk-requires t c =
    let kept = c.min-kept.result in
    let width = c.min-width.result in
    let is_kept = c.min-kept.ensures in
    let is_width = c.min-width.ensures in
    let one = c.if-n-eq1.false in
    let some = c.requires.some in
    let few = c.requires.few in
    let size = c.clear_all.ensures.size in
    let prefix = c.split_at_mut-next.ensures.front_len in
    let back = c.split_at_mut-next.ensures.back_len in
    let whole = c.requires.laid.size in
    let long : length c.clear_all.new.next ≡ 32 * (kept + c.args.others * width) = size ∙ prefix in
    let m : c.args.others * width ≤ c.args.others * c.args.each = mul-le-mul_left c.args.others (let h : width ≤ c.args.each = omega arith in h) in (
      let d = c.decreases in omega arith,
      (
        IsLaid-left c.args.order c.args.rows.now c.args.first c.args.others c.args.each c.in-Some.place c.clear_all.new.next kept width long c.clear_all.ensures.left,
        (
          omega arith,
          (
            c.requires.sizes,
            (
              room_left (length c.args.rows.now) (length c.clear_all.new.next) c.args.n (length c.args.room.now) (length c.split_at_mut-next.result.1.now) (omega arith) c.requires.room (omega arith) (omega arith),
              let m = c.requires.multiples in let same = c.clear_all.ensures.multiples in omega arith,
            ),
          ),
        ),
      ),
    )

pub walk_first-returns-then-walk-clause-independent : goal.walk_first-returns-then-walk-clause-independent
walk_first-returns-then-walk-clause-independent t c =
    let ne = c.if-first-eq0.false in
    let some : 0 < c.args.first = omega arith in
    let R = rows_by (digits_in c.args.order c.args.rows.now c.args.first c.args.each) in
    all_raised c.args.order R c.args.first c.args.others c.args.each c.args.n some c.requires.some c.requires.others
    (all_left c.args.order c.args.rows.now c.args.first c.args.others c.args.each c.in-Some.place c.requires.laid some
    (digit_some c.args.order c.args.rows.now c.read_row.result c.in-Some.place c.read_row.ensures (c.requires.laid.of_first 0 some) c.in-Some.ensures.1)
    c.args.n c.clear_all.new.next c.min-kept.result c.min-width.result c.min-kept.ensures c.min-width.ensures c.clear_all.ensures.left c.if-walk.ensures.independent)

pub walk_first-returns-clause-found : goal.walk_first-returns-clause-found
walk_first-returns-clause-found t c =
    let ne = c.if-first-eq0.false in
    let some : 0 < c.args.first = omega arith in
    let R = rows_by (digits_in c.args.order c.args.rows.now c.args.first c.args.each) in
    found_raised c.args.order R c.args.first c.args.others c.args.each c.args.n c.walk.new.sizes _ some c.requires.some c.requires.others
    (found_left c.args.order c.args.rows.now c.args.first c.args.others c.args.each c.in-Some.place c.requires.laid some
    (digit_some c.args.order c.args.rows.now c.read_row.result c.in-Some.place c.read_row.ensures (c.requires.laid.of_first 0 some) c.in-Some.ensures.1)
    c.args.n c.clear_all.new.next c.min-kept.result c.min-width.result c.min-kept.ensures c.min-width.ensures c.clear_all.ensures.left c.walk.new.sizes c.if-walk.ensures.found)
    refl
