use Rattle.std.proofs.Common.{◌≡◌, [], ◌∷◌, ◌++◌, decimal, refl, ap, arith}
use Rattle.std.proofs.lemmas.Result.{IfOk-weaker}
use Rattle.mt_cells.specs.Cells.{cells_of}
use Rattle.mt_answer.specs.Sheets.{cell_fields, IsExportText}
use Rattle.mt_answer.proofs.SheetLemmas.{export_header, IsCellRow, header_alone, one_more, all_cells}
use Rattle.mt_answer.proofs.exports.export_lines.Goals as goal

pub loop-number-init : goal.loop-number-init
loop-number-init c = header_alone export_header (IsCellRow c.args.table.now) c.push.new.self (rw c.new-sheet.ensures at c.in_ok-push.ensures)

pub loop-number-preserved : goal.loop-number-preserved
loop-number-preserved c =
    let cell = c.at-cell.result in
    one_more export_header (IsCellRow c.args.table.now) c.loop-number.number c.loop-number.sheet c.push_cell.new.sheet (cell_fields cell ++ decimal c.value.result ∷ decimal c.since.result ∷ []) c.loop-number.invariant (
      cell,
      rw c.bounds-bounds.ensures at c.at-cell.ensures.inside,
      rw c.bounds-bounds.ensures at c.at-cell.ensures.number,
      record { k = c.value.result; value = c.value.ensures; since = c.since.result; is_since = c.since.ensures; fields_are = refl },
    )
    c.in_ok-push_cell.ensures

pub returns : goal.returns
returns c =
    let t = c.args.table.now in
    let all : c.loop-number.number ≡ cells_of t.bounds = omega (arith, ap cells_of c.bounds-bounds.ensures) in
    IfOk-weaker c.into_bytes.result _ (λ bytes. IsExportText t.bounds t.rules t.events bytes.items) (λ bytes e. all_cells t c.loop-number.number bytes.items all (rw e c.loop-number.invariant)) c.into_bytes.ensures
