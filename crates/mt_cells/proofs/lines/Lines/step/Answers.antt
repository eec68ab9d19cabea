use Rattle.std.proofs.Common.{arith}
use Rattle.mt_cells.proofs.SpotLemmas.{position_small, stands, reach_high, column_next, stage_next}
use Rattle.mt_cells.proofs.lines.Lines.step.Goals as goal

pub returns-then-self-reach-clause-later : goal.returns-then-self-reach-clause-later
returns-then-self-reach-clause-later c =
    let self = c.args.self.now in
    let small = position_small self.bounds self.stage self.m self.depth self.position in
    omega arith

pub returns-then-self-reach-clause-none : goal.returns-then-self-reach-clause-none
returns-then-self-reach-clause-none c =
    let self = c.args.self.now in
    λ g m d s p l. let st = stands self.bounds self.rules self.cell g m d s self.inside p in
    column_next self.bounds self.stage g self.m self.depth m d self.position st.position (omega arith) l

pub returns-else-self-reach-clause-later : goal.returns-else-self-reach-clause-later
returns-else-self-reach-clause-later c =
    let self = c.args.self.now in
    let small = position_small self.bounds self.stage self.m self.depth self.position in
    omega (arith, c.following-self.ensures.later)

pub returns-else-self-reach-clause-none : goal.returns-else-self-reach-clause-none
returns-else-self-reach-clause-none c =
    let self = c.args.self.now in
    λ g m d s p l. let st = stands self.bounds self.rules self.cell g m d s self.inside p in
    stage_next self.bounds self.cell self.stage c.following-self.result g self.m self.depth m d self.position st.position (reach_high self.bounds self.rules self.cell g m d s p) (c.following-self.ensures.none g st.used) (omega arith) (omega arith) l
