use Rattle.std.proofs.Common.{refl, arith}
use Rattle.mt_cells.proofs.RuleLemmas.{least_low}
use Rattle.mt_cells.proofs.SpotLemmas.{coordinates_low, first_line, second_line}
use Rattle.mt_cells.proofs.lines.Lines.line.Goals as goal

pub returns-in-First : goal.returns-in-First
returns-in-First c =
    let self = c.args.self.now in
    let room = c.room_of_second in
    rw (c.in-First.is, c.least_second.ensures) record {
      stage_is = refl;
      m_is = refl;
      depth_is = refl;
      spots = λ s. first_line self.bounds self.rules c.in-First.rule self.cell self.m self.depth s room.result self.inside (rw c.in-First.is at self.position) (room.ensures.fits s);
      first_low = least_low c.in-First.rule self.cell (coordinates_low self.bounds self.cell self.inside);
      last_high = room.ensures.high;
    }

pub returns-in-Second : goal.returns-in-Second
returns-in-Second c =
    let self = c.args.self.now in
    let most = c.most_first in
    rw c.in-Second.is record {
      stage_is = refl;
      m_is = refl;
      depth_is = refl;
      spots = λ s. second_line self.bounds self.rules c.in-Second.rule self.cell self.m self.depth s most.result c.own.result (rw c.in-Second.is at self.position) (most.ensures.fits s) (c.own.ensures s);
      first_low = omega arith;
      last_high = most.ensures.high;
    }
