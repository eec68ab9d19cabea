use Rattle.std.proofs.Common.{◌∙◌, subst}
use Rattle.mt_keeper.specs.Keeping.{texts_of}
use Rattle.mt_keeper_sql.specs.Rows.{AreRecords}
use Rattle.mt_keeper_sql.proofs.RowLemmas.{records_are}
use Rattle.mt_keeper_sql.proofs.keeper.read_all.Goals as goal

pub returns-clause-ok : goal.returns-clause-ok
returns-clause-ok g c = λ clean texts stands.
    let made = c.in_ok-create.ensures.ok (c.select.ensures.clean clean) texts stands in
    let found = c.in_ok-rows.ensures.ok clean texts made.0.stands made.1 in
    let read = subst (λ rows. AreRecords 1 rows (texts_of c.in_ok-texts_of_rows.field-0.items)) (c.deref.ensures.value ∙ found.1) c.in_ok-texts_of_rows.ensures.records in
    (record { was_open = made.0.was_open; stands = found.0.stands }, c.new.ensures ∙ records_are 1 texts _ read)
