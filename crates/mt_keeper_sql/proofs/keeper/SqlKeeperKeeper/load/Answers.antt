use Rattle.std.proofs.Common.{◌∙◌, Ok, Err}
use Rattle.sqlite.specs.Held.{state}
use Rattle.mt_keeper_sql.proofs.KeeperLemmas.{load_ends}
use Rattle.mt_keeper_sql.proofs.keeper.SqlKeeperKeeper.load.Goals as goal

pub returns-in-Ok-clause-records : goal.returns-in-Ok-clause-records
returns-in-Ok-clause-records g c =
    load_ends g.S.Store c.args.self.now _ (c.self.view_is ∙ c.begin.ensures) c.self.invariant (state g.S.Store c.read_all.new.connection) c.read_all.ensures.clean (Ok c.in-Ok.records) (λ clean. c.in-Ok.ensures.ok clean)

pub returns-in-Err-clause-records : goal.returns-in-Err-clause-records
returns-in-Err-clause-records g c =
    load_ends g.S.Store c.args.self.now _ (c.self.view_is ∙ c.begin.ensures) c.self.invariant (state g.S.Store c.read_all.new.connection) c.read_all.ensures.clean (Err c.refusal.result) (λ clean. c.in-Err.ensures.err clean)
