use Rattle.std.proofs.Common.{◌≡◌, true, ℕ, ◌+◌, ◌-◌, ◌<◌, List, [], ◌∷◌, ◌++◌, length, get_or, replicate, refl, sym, ap, ◌∙◌, inl, inr, arith, subst}
use Rattle.mt_linear.specs.declared.order.Order.{Order}
use Rattle.mt_linear.specs.Linear.{AllElements, Independent, Gives}
use Rattle.mt_linear.specs.Vectors.{Inserts}
use Rattle.mt_linear.specs.Insertion.{Appends, Shows}
use Rattle.mt_system.specs.Rows.{part_rows}
use Rattle.mt_strength.specs.CountedSearch.{rows_after, number_taken, IsSearched, IsSearchedBehind}
use Rattle.mt_strength.proofs.CountedLemmas.{searched_last, searched_behind, searched_none, searched_one, searched_with_true, searched_with_false, number_taken-least, number_taken-with, number_taken-whole, number_taken-positive, on_ok, front_zero}
use Rattle.mt_strength.proofs.counted_search.+searching.Goals.{search-then-j-depth-via-then-j-depth, search-then-j-depth-via-else-j-depth+then-n-eq0}
use Rattle.mt_strength.proofs.counted_search.+searching.Goals as goal

pub search-returns-then-not-branch-clause-steps : goal.search-returns-then-not-branch-clause-steps
search-returns-then-not-branch-clause-steps g t c =
    omega (arith, number_taken-least (c.args.depth - c.args.j) (c.args.system.now.coordinates - c.args.i) c.args.depth c.args.n, c.in_ok-search_behind.ensures.steps)

pub search-returns-then-j-depth-clause-searched : goal.search-returns-then-j-depth-clause-searched
search-returns-then-j-depth-clause-searched g t c =
    let without = rw c.if-not-branch.false at c.in_ok-search_behind.ensures.searched in
    searched_none c.args.system.now.order c.args.basis.now.vectors (part_rows c.args.system.now c.args.width) (c.args.i - 1) c.args.j
    (c.args.depth - c.args.j) (c.args.system.now.coordinates - c.args.i) c.args.depth c.args.n c.search_behind.new.sizes
    (elim c.then-j-depth.branch [
      | search-then-j-depth-via-then-j-depth w ↦ let e = w.if-j-depth.true in inl (omega arith)
      | search-then-j-depth-via-else-j-depth+then-n-eq0 w ↦ let e = w.if-n-eq0.true in inr (omega arith)
    ])
    without

pub search-search_with-requires : goal.search-search_with-requires
search-search_with-requires g t c κs within =
    let o = c.args.system.now.order in
    let same = c.in_ok-search_behind.ensures.basis in
    let sizes = c.search_behind.auto.sizes in
    let length_is = c.requires.sizes in
    let without : IsSearchedBehind o (rows_after c.args.basis.now.vectors (part_rows c.args.system.now c.args.width) (c.args.i - 1) c.args.j)
    (c.args.depth - c.args.j) (c.args.system.now.coordinates - c.args.i) c.args.depth c.args.n c.search_behind.new.sizes true =
    rw c.if-not-branch.false at c.in_ok-search_behind.ensures.searched in
    let j_ne = c.if-j-depth.false in
    let n_ne = c.if-n-eq0.false in
    let row = c.requires.row in
    let measure = c.decreases in (
      omega arith,
      (
        within,
        (
          c.requires.narrow,
          (
            c.requires.few,
            (
              c.requires.coordinate_from,
              (
                c.requires.coordinate_to,
                (
                  omega arith,
                  (
                    omega arith,
                    (
                      ap (λ (b : Inserts). b.order) same ∙ c.requires.order,
                      (
                        ap (λ (b : Inserts). b.columns) same ∙ c.requires.columns,
                        (
                          subst (λ (b : Inserts). Independent o b.vectors) (sym same) c.requires.independent,
                          (
                            omega arith,
                            subst (λ (b : Inserts). IsSearchedBehind o (rows_after b.vectors (part_rows c.args.system.now c.args.width) (c.args.i - 1) c.args.j)
                                (c.args.depth - c.args.j) (c.args.system.now.coordinates - c.args.i) c.args.depth c.args.n c.search_behind.new.sizes true) (sym same) without,
                          ),
                        ),
                      ),
                    ),
                  ),
                ),
              ),
            ),
          ),
        ),
      ),
    )

pub search-returns-clause-steps : goal.search-returns-clause-steps
search-returns-clause-steps g t c =
    let j_ne = c.if-j-depth.false in
    let n_ne = c.if-n-eq0.false in
    let row = c.requires.row in
    let behind = c.in_ok-search_behind.ensures.steps in
    let all = number_taken-with c.args.depth c.args.j (c.args.system.now.coordinates - c.args.i) c.args.depth c.args.n (omega arith) (omega arith) in
    on_ok c.search_with.result _ _ (λ with_row. omega (arith, with_row, behind, all)) c.search_with.ensures.steps

pub search_behind-returns-then-i-s-clause-searched : goal.search_behind-returns-then-i-s-clause-searched
search_behind-returns-then-i-s-clause-searched g t c =
    searched_last c.args.system.now.order c.args.basis.now.vectors (part_rows c.args.system.now c.args.width) (c.args.i - 1) c.args.j
    (c.args.depth - c.args.j) (c.args.system.now.coordinates - c.args.i) c.args.depth c.args.n c.args.sizes.now
    (omega (arith, c.if-i-s.true, c.s-s.ensures)) c.requires.independent

pub search_behind-returns-clause-searched : goal.search_behind-returns-clause-searched
search_behind-returns-clause-searched g t c =
    let some : 0 < c.args.system.now.coordinates - c.args.i = omega (arith, c.if-i-s.false, c.s-s.ensures) in
    searched_behind c.args.system.now.order c.args.basis.now.vectors (part_rows c.args.system.now c.args.width) (c.args.i - 1) (c.args.i + 1 - 1) c.args.j
    (c.args.depth - c.args.j) (c.args.system.now.coordinates - c.args.i) c.args.depth c.args.n c.search.new.sizes _ c.in_ok-holds.holds (omega arith) some
    (front_zero c.args.sizes.now c.search.new.sizes (let size = c.requires.sizes in let l = c.requires.coordinate_to in omega arith))
    (subst (λ m. IsSearched c.args.system.now.order (rows_after c.args.basis.now.vectors (part_rows c.args.system.now c.args.width) (c.args.i + 1 - 1) 0) (c.args.depth - 0) m c.args.depth c.args.n
    c.search.new.sizes c.in_ok-holds.holds) (let less : c.args.system.now.coordinates - (c.args.i + 1) ≡ c.args.system.now.coordinates - c.args.i - 1 = omega arith in less) c.in_ok-holds.ensures.searched)

pub search_behind-returns-clause-steps : goal.search_behind-returns-clause-steps
search_behind-returns-clause-steps g t c =
    let some : 0 < c.args.system.now.coordinates - c.args.i = omega (arith, c.if-i-s.false, c.s-s.ensures) in
    let e = number_taken-whole (c.args.depth - 0) (c.args.system.now.coordinates - c.args.i) c.args.depth c.args.n (omega arith) some in
    let less : c.args.system.now.coordinates - (c.args.i + 1) ≡ c.args.system.now.coordinates - c.args.i - 1 = omega arith in
    let all = ap (λ m. number_taken (c.args.depth - 0) m c.args.depth c.args.n) less in
    omega (arith, e, all, c.in_ok-holds.ensures.steps)

pub search_with-returns-in-Depends-clause-searched : goal.search_with-returns-in-Depends-clause-searched
search_with-returns-in-Depends-clause-searched g t c =
    let V = c.args.basis.now.vectors in
    let o = c.args.system.now.order in
    let row = c.in_ok-row.row in
    let found = c.in-Depends.field-0 in
    let vector = c.in_ok-row.ensures.vector in
    let shows : Shows c.args.basis.now row c.insert.new.self found = rw c.in-Depends.is at c.in_ok-insert.ensures.ok in
    let gives : Gives o (λ k. get_or found.digits k 0) V row.digits =
    subst (λ (p : Order). Gives p (λ k. get_or found.digits k 0) V row.digits) c.requires.order shows.gives in
    searched_one o V (part_rows c.args.system.now c.args.width) (c.args.i - 1) c.args.j
    (c.args.depth - c.args.j) (c.args.system.now.coordinates - c.args.i) c.args.depth c.args.n row.digits found.digits c.take_one.new.sizes
    (let room = c.requires.row in omega arith) c.requires.some (c.in_ok-row.ensures.digits ∙ ap (part_rows c.args.system.now c.args.width (c.args.i - 1)) (let back : c.args.j + 1 - 1 ≡ c.args.j = omega arith in back))
    vector.elements (subst (λ (p : Order). AllElements p found.digits) (shows.order ∙ c.requires.order) shows.elements) shows.size gives
    (c.take_one.ensures ∙ ap (λ m. 1 ∷ replicate m 0) (let size = c.requires.sizes in let e : length c.args.sizes.now - 1 ≡ c.args.system.now.coordinates - c.args.i = omega arith in e))
    c.requires.behind

pub search_with-returns-in-Depends-clause-steps : goal.search_with-returns-in-Depends-clause-steps
search_with-returns-in-Depends-clause-steps g t c =
    omega (arith, number_taken-positive (c.args.depth - (c.args.j + 1)) (c.args.system.now.coordinates - c.args.i) c.args.depth (c.args.n - 1), c.in_ok-insert.ensures.steps)

pub search_with-search-requires : goal.search_with-search-requires
search_with-search-requires g t c κs within =
    let fresh : Appends c.args.basis.now c.in_ok-row.row c.insert.new.self = rw c.in-Fresh.is at c.in_ok-insert.ensures.ok in
    let order : c.insert.new.self.order ≡ c.args.system.now.order = ap (λ (b : Inserts). b.order) fresh.appended ∙ c.requires.order in
    let row = c.requires.row in
    let some = c.requires.some in
    let measure = c.decreases in (
      omega arith,
      (
        within,
        (
          c.requires.narrow,
          (
            c.requires.few,
            (
              c.requires.coordinate_from,
              (
                c.requires.coordinate_to,
                (
                  omega arith,
                  (
                    order,
                    (
                      ap (λ (b : Inserts). b.columns) fresh.appended ∙ c.requires.columns,
                      (
                        subst (λ (p : Order). Independent p c.insert.new.self.vectors) order c.in_ok-insert.ensures.independent,
                        c.requires.sizes,
                      ),
                    ),
                  ),
                ),
              ),
            ),
          ),
        ),
      ),
    )

pub search_with-returns-then-holds-clause-searched : goal.search_with-returns-then-holds-clause-searched
search_with-returns-then-holds-clause-searched g t c =
    let V = c.args.basis.now.vectors in
    let row = c.in_ok-row.row in
    let fresh : Appends c.args.basis.now row c.insert.new.self = rw c.in-Fresh.is at c.in_ok-insert.ensures.ok in
    let back : c.args.j + 1 - 1 ≡ c.args.j = omega arith in
    let all = rw c.if-holds.true at c.in_ok-holds.ensures.searched in
    searched_with_true c.args.system.now.order V (part_rows c.args.system.now c.args.width) c.insert.new.self.vectors (c.args.i - 1) c.args.j
    c.args.depth (c.args.system.now.coordinates - c.args.i) c.args.depth c.args.n c.requires.some c.requires.row
    (ap (λ (b : Inserts). b.vectors) fresh.appended ∙ ap (λ (x : List ℕ). V ++ x ∷ []) (c.in_ok-row.ensures.digits ∙ ap (part_rows c.args.system.now c.args.width (c.args.i - 1)) back))
    c.requires.behind all

pub search_with-returns-clause-searched : goal.search_with-returns-clause-searched
search_with-returns-clause-searched g t c =
    let V = c.args.basis.now.vectors in
    let row = c.in_ok-row.row in
    let fresh : Appends c.args.basis.now row c.insert.new.self = rw c.in-Fresh.is at c.in_ok-insert.ensures.ok in
    let back : c.args.j + 1 - 1 ≡ c.args.j = omega arith in
    let found = rw c.if-holds.false at c.in_ok-holds.ensures.searched in
    searched_with_false c.args.system.now.order V (part_rows c.args.system.now c.args.width) c.insert.new.self.vectors (c.args.i - 1) c.args.j
    c.args.depth (c.args.system.now.coordinates - c.args.i) c.args.depth c.args.n c.requires.some c.requires.row
    (ap (λ (b : Inserts). b.vectors) fresh.appended ∙ ap (λ (x : List ℕ). V ++ x ∷ []) (c.in_ok-row.ensures.digits ∙ ap (part_rows c.args.system.now c.args.width (c.args.i - 1)) back))
    c.requires.behind c.search.new.sizes _ refl found
