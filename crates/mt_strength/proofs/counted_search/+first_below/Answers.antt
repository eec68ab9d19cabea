use Rattle.std.proofs.Common.{◌<◌, ◌≤◌, ◌-◌, sum, ap, ◌∙◌, arith}
use Rattle.mt_linear.specs.Vectors.{Inserts}
use Rattle.mt_system.specs.Rows.{rows_by, part_rows}
use Rattle.mt_strength.specs.Searches.{IsFirstByList}
use Rattle.mt_strength.proofs.LeastLemmas.{some_rows, least_found, least_lesser, steps_found, steps_lesser}
use Rattle.mt_strength.proofs.counted_search.+first_below.Goals as goal

pub overflow_sub-fewer : goal.overflow_sub-fewer
overflow_sub-fewer g t c =
    let found = rw c.in-Some.is at c.in_ok-choice.ensures.searched in
    omega (arith, some_rows c.args.system.now.order c.args.system.now.coordinates c.args.depth c.args.n (part_rows c.args.system.now c.args.width) c.in-Some.choice found, c.size_of.ensures)

pub first_below-requires : goal.first_below-requires
first_below-requires g t c κs within =
    let found : IsFirstByList c.args.system.now.order c.args.system.now.coordinates c.args.depth c.args.n (rows_by (part_rows c.args.system.now c.args.width)) c.in-Some.choice =
    rw c.in-Some.is at c.in_ok-choice.ensures.searched in
    let some : 0 < sum c.in-Some.choice = some_rows c.args.system.now.order c.args.system.now.coordinates c.args.depth c.args.n (part_rows c.args.system.now c.args.width) c.in-Some.choice found in
    let few : sum c.in-Some.choice ≤ c.args.n = found.size in
    let measure = c.decreases in
    let same = c.in_ok-choice.ensures.basis in (
      omega (arith, c.size_of.ensures),
      (
        within,
        (
          c.requires.narrow,
          (
            c.requires.few,
            (
              ap (λ (b : Inserts). b.order) same ∙ c.requires.order,
              (
                ap (λ (b : Inserts). b.columns) same ∙ c.requires.columns,
                ap (λ (b : Inserts). b.vectors) same ∙ c.requires.empty,
              ),
            ),
          ),
        ),
      ),
    )

pub returns-in-Some-2-clause-first : goal.returns-in-Some-2-clause-first
returns-in-Some-2-clause-first g t c =
    let found : IsFirstByList c.args.system.now.order c.args.system.now.coordinates c.args.depth c.args.n (rows_by (part_rows c.args.system.now c.args.width)) c.in-Some.choice =
    rw c.in-Some.is at c.in_ok-choice.ensures.searched in
    let few : sum c.in-Some.choice ≤ c.args.n = found.size in
    let least = rw c.in-Some-2.is at c.in_ok-lesser.ensures.first in
    least_lesser c.args.system.now.order c.args.system.now.coordinates c.args.depth c.args.n (c.size_of.result - 1) (rows_by (part_rows c.args.system.now c.args.width)) c.in-Some-2.lesser
    (omega (arith, c.size_of.ensures)) least

pub returns-in-Some-2-clause-steps : goal.returns-in-Some-2-clause-steps
returns-in-Some-2-clause-steps g t c =
    let found : IsFirstByList c.args.system.now.order c.args.system.now.coordinates c.args.depth c.args.n (rows_by (part_rows c.args.system.now c.args.width)) c.in-Some.choice =
    rw c.in-Some.is at c.in_ok-choice.ensures.searched in
    let some : 0 < sum c.in-Some.choice = some_rows c.args.system.now.order c.args.system.now.coordinates c.args.depth c.args.n (part_rows c.args.system.now c.args.width) c.in-Some.choice found in
    let few : sum c.in-Some.choice ≤ c.args.n = found.size in
    let second = rw c.in-Some-2.is at c.in_ok-lesser.ensures.steps in
    steps_lesser c.args.system.now.coordinates c.args.depth c.args.n c.size_of.result c.args.steps.now c.search_whole.new.steps c.first_below.new.steps
    (omega (arith, c.size_of.ensures)) (omega (arith, c.size_of.ensures)) c.in_ok-choice.ensures.steps second

pub returns-in-None-clause-first : goal.returns-in-None-clause-first
returns-in-None-clause-first g t c =
    let found : IsFirstByList c.args.system.now.order c.args.system.now.coordinates c.args.depth c.args.n (rows_by (part_rows c.args.system.now c.args.width)) c.in-Some.choice =
    rw c.in-Some.is at c.in_ok-choice.ensures.searched in
    let none = rw c.in-None.is at c.in_ok-lesser.ensures.first in
    least_found c.args.system.now.order c.args.system.now.coordinates c.args.depth c.args.n (c.size_of.result - 1) (rows_by (part_rows c.args.system.now c.args.width)) c.in-Some.choice
    found (ap (λ m. m - 1) c.size_of.ensures) none

pub returns-in-None-clause-steps : goal.returns-in-None-clause-steps
returns-in-None-clause-steps g t c =
    let found : IsFirstByList c.args.system.now.order c.args.system.now.coordinates c.args.depth c.args.n (rows_by (part_rows c.args.system.now c.args.width)) c.in-Some.choice =
    rw c.in-Some.is at c.in_ok-choice.ensures.searched in
    let some : 0 < sum c.in-Some.choice = some_rows c.args.system.now.order c.args.system.now.coordinates c.args.depth c.args.n (part_rows c.args.system.now c.args.width) c.in-Some.choice found in
    let few : sum c.in-Some.choice ≤ c.args.n = found.size in
    let second = rw c.in-None.is at c.in_ok-lesser.ensures.steps in
    steps_found c.args.system.now.coordinates c.args.depth c.args.n c.size_of.result c.args.steps.now c.search_whole.new.steps c.first_below.new.steps
    (omega (arith, c.size_of.ensures)) (omega (arith, c.size_of.ensures)) c.in_ok-choice.ensures.steps second
