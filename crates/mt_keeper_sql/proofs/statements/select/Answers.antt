use Rattle.sqlite.specs.Held.{state}
use Rattle.mt_keeper_sql.proofs.QueryLemmas.{finds, not_found}
use Rattle.mt_keeper_sql.proofs.statements.select.Goals as goal

pub returns-clause-ok : goal.returns-clause-ok
returns-clause-ok g c = λ clean. finds (λ rows. rows.items) (state g.S.Store c.args.connection.now) (state g.S.Store c.query_all.new.self) c.query_all.result (c.query_all.ensures.ok clean)

pub returns-clause-err : goal.returns-clause-err
returns-clause-err g c = λ clean. not_found (state g.S.Store c.args.connection.now) (state g.S.Store c.query_all.new.self) c.query_all.result (c.query_all.ensures.err clean)
