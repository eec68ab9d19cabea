use Rattle.std.proofs.Common.{◌≡◌, rules, ap, ◌∙◌, pos}
use Rattle.std.proofs.lemmas.List.{map-append, length-map}
use Rattle.sqlite.specs.declared.types.Value.TheVariants.{Int}
use Rattle.mt_keeper.specs.Keeping.{texts_of}
use Rattle.mt_keeper_sql.proofs.RowLemmas.{records_more}
use Rattle.mt_keeper_sql.proofs.rows.texts_of_rows.Goals as goal

pub loop-row-preserved : goal.loop-row-preserved
loop-row-preserved c =
    let same : c.in_ok-get.field-0 ≡ c.loop-row.next = search rules in
    record {
      next = search rules;
      few = search rules;
      records = rw (c.in_ok-push.ensures.items, map-append) (records_more c.args.rows.now (texts_of c.loop-row.texts.items) c.loop-row.row-index c.loop-row.next _ c.row-item.result c.in_ok-get-2.field-0.items
          (search rules) c.loop-row.invariant.records (rw length-map c.loop-row.invariant.next) c.row-item.is
          (c.in_ok-get.ensures.ok.1 ∙ ap (λ m. Int (pos m)) same) c.in_ok-get-2.ensures.ok.1);
    }
