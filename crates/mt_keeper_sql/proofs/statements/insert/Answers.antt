use Rattle.sqlite.specs.Held.{state}
use Rattle.mt_keeper_sql.proofs.StatementLemmas.{adds, not_run}
use Rattle.mt_keeper_sql.proofs.statements.insert.Goals as goal

pub returns-clause-ok : goal.returns-clause-ok
returns-clause-ok g c = λ clean. adds (state g.S.Store c.args.connection.now) (state g.S.Store c.execute.new.self) c.args.number c.args.text.now c.execute.result (rw (c.params-to_sql.ensures, c.params-to_sql-2.ensures) at (c.execute.ensures.runs clean))

pub returns-clause-err : goal.returns-clause-err
returns-clause-err g c = λ clean. not_run (state g.S.Store c.args.connection.now) (state g.S.Store c.execute.new.self) _ _ c.execute.result (c.execute.ensures.runs clean)
