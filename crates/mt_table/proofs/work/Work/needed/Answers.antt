use Rattle.std.proofs.Common.{arith}
use Rattle.mt_table.proofs.work.Work.needed.Goals as goal

pub returns-in-First-clause-part : goal.returns-in-First-clause-part
returns-in-First-clause-part c =
    let right = c.requires.right in
    record {
      only = λ s f l k. (right.spots s).1 (f, omega (arith, l, c.max.ensures, c.last_needed-last.ensures.low), k);
      all = λ s p x.
          let z = (right.spots s).0 p in
          (z.0, omega (arith, c.max.ensures, c.last_needed-last.ensures.all s z.1 (rw c.in-First.is at x)), z.2);
      first_low = right.first_low;
      last_high = omega (arith, right.last_high, c.max.ensures, c.last_needed-last.ensures.low, c.requires.some);
      near = omega (arith, c.max.ensures, right.first_low);
    }

pub returns-in-Second-clause-part : goal.returns-in-Second-clause-part
returns-in-Second-clause-part c =
    let right = c.requires.right in
    record {
      only = λ s f l k. (right.spots s).1 (omega (arith, f, c.max-in-Second.ensures), l, k);
      all = λ s p x.
          let z = (right.spots s).0 p in
          (omega (arith, z.0, c.max-in-Second.ensures, c.min.ensures, c.first_needed-first.ensures s z.1 (rw c.in-Second.is at x)), z.1, z.2);
      first_low = omega (arith, c.max-in-Second.ensures, right.first_low);
      last_high = right.last_high;
      near = omega (arith, c.max-in-Second.ensures, c.min.ensures, c.requires.some);
    }
