use Rattle.std.proofs.Common.{◌∙◌, Ok, Err}
use Rattle.sqlite.specs.Held.{state}
use Rattle.mt_keeper_sql.proofs.KeeperLemmas.{put_ends, put_holds}
use Rattle.mt_keeper_sql.proofs.keeper.SqlKeeperKeeper.put.Goals as goal

pub invariant_of-self : goal.invariant_of-self
invariant_of-self g c =
    put_holds g.S.Store c.args.self.now _ (c.self.view_is ∙ c.begin.ensures) c.self.invariant (state g.S.Store c.insert.new.connection) c.insert.ensures.clean c.args.number c.args.text.now c.requires (λ clean. c.in-Ok.ensures.ok clean)

pub returns-in-Ok-clause-records : goal.returns-in-Ok-clause-records
returns-in-Ok-clause-records g c =
    put_ends g.S.Store c.args.self.now _ (c.self.view_is ∙ c.begin.ensures) c.self.invariant (state g.S.Store c.insert.new.connection) c.insert.ensures.clean c.args.number c.args.text.now c.requires (Ok tt) (λ clean. c.in-Ok.ensures.ok clean)

pub returns-in-Err-clause-records : goal.returns-in-Err-clause-records
returns-in-Err-clause-records g c =
    put_ends g.S.Store c.args.self.now _ (c.self.view_is ∙ c.begin.ensures) c.self.invariant (state g.S.Store c.insert.new.connection) c.insert.ensures.clean c.args.number c.args.text.now c.requires (Err c.refusal.result) (λ clean. c.in-Err.ensures.err clean)
