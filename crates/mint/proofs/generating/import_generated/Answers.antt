use Rattle.std.proofs.Common.{◌≡◌, map, refl, inr, subst}
use Rattle.std.proofs.lemmas.Result.{err_from_is_err_and}
use Rattle.mt_system.specs.Statements.{statement_of}
use Rattle.mt_cells.specs.declared.bounds.Bounds.{Bounds}
use Rattle.mt_derive.specs.Events.{entries_of}
use Rattle.mt_derive.specs.Values.{IsScore}
use Rattle.mt_table.specs.Tables.{Contents}
use Rattle.mt_gen.specs.Generated.{AreGenerated}
use Rattle.mint.proofs.ChainLemmas.{told_none}
use Rattle.mint.proofs.GeneratingLemmas.{wholly_generated, generated_run}
use Rattle.mint.proofs.generating.import_generated.Goals as goal

pub returns-in_err-claims-clause-told : goal.returns-in_err-claims-clause-told
returns-in_err-claims-clause-told g c = told_none c.args.service.now.bounds c.args.service.now.rules _ _ c.args.service.now.events c.args.feeds.now.items

pub returns-in_err-line-clause-stopped : goal.returns-in_err-line-clause-stopped
returns-in_err-line-clause-stopped g c =
    let s = c.args.service.now in
    let p = err_from_is_err_and c.from_residual-in_err-line.result c.from_residual-in_err-line.ensures.1 in
    let claims = c.in_ok-claims.claims.items in
    let within : c.bounds.result ≡ s.bounds = cc in
    let generated = subst (λ (b : Bounds). AreGenerated c.args.seed b 1 c.args.seed (map statement_of claims)) within c.in_ok-claims.ensures.claims in
    let part = wholly_generated s.bounds s.rules c.args.seed c.args.count claims generated c.in_ok-claims.ensures.size
    s.events c.import_claims.new.service.events c.in_ok-tally.tally (rw c.deref.ensures.value at c.in_ok-tally.ensures.imported) in
    rw (p.1, p.2) ((λ e. cc e), inr part)

pub returns-clause-answer : goal.returns-clause-answer
returns-clause-answer g c =
    let s = c.args.service.now in
    let M = c.import_claims.new.service.events in
    let claims = c.in_ok-claims.claims.items in
    let within : c.bounds.result ≡ s.bounds = cc in
    let generated = subst (λ (b : Bounds). AreGenerated c.args.seed b 1 c.args.seed (map statement_of claims)) within c.in_ok-claims.ensures.claims in
    let did = c.in_ok-tally.ensures in
    let score = rw (did.bounds, did.rules) at
    (subst (λ (t : Contents). IsScore t.bounds t.rules (entries_of t.events) c.score-score.result) c.table-2.ensures c.score-score.ensures) in (
      refl,
      generated_run s.bounds s.rules c.args.seed c.args.count claims generated c.in_ok-claims.ensures.size s.events M c.in_ok-tally.tally c.score-score.result
          c.in_ok-line.field-0.items (rw c.deref.ensures.value at did.imported) score c.in_ok-line.ensures,
    )
