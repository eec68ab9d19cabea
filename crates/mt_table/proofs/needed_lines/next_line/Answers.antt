use Rattle.mt_table.proofs.needed_lines.next_line.Goals as goal

pub returns-clause-passed : goal.returns-clause-passed
returns-clause-passed c = λ g m d s p x l.
    c.next.ensures.passed g m d s (rw (c.pass_lines.ensures.bounds, c.pass_lines.ensures.rules, c.pass_lines.ensures.cell) p) (c.pass_lines.ensures.passed g m d s p x l)
