use Rattle.std.proofs.Common.{◌≤◌, ◌<◌, ◌+◌, ◌++◌, [], List, ℕ, take, flat_map, sym, ap, ◌∙◌, arith}
use Rattle.std.proofs.lemmas.List.{flat_map_more}
use Rattle.std.proofs.lemmas.List.Elements.{All-weaker}
use Rattle.mt_import.specs.Lines.{digit_zero, lines_of, without_blanks}
use Rattle.mt_import.specs.Texts.{digits_of}
use Rattle.mt_import.proofs.ReadingLemmas.{next_row, some_row}
use Rattle.mt_import.proofs.import_text.read_rows.Goals as goal

pub push_digits-requires : goal.push_digits-requires
push_digits-requires c =
    let h = c.args.header.now in
    let next = next_row h c.args.text.now c.loop-passed.rest.now c.in-Some.row.now c.in-Some.behind.now c.loop-passed.passed c.requires (omega (arith, c.count_rows-passed-end.ensures.value, c.loop-passed-test.true)) c.loop-passed.invariant.left c.in-Some.ensures.lines in
    record { row = All-weaker (λ b. (digit_zero ≤ b) × (b < digit_zero + h.q)) (λ b. digit_zero ≤ b) (λ b is. is.0) (without_blanks c.in-Some.row.now) next.is_row.digits }

pub loop-passed-preserved : goal.loop-passed-preserved
loop-passed-preserved c =
    let row = c.in-Some.row.now in
    let passed = c.loop-passed.passed in
    let ls = lines_of c.args.text.now in
    let next = next_row c.args.header.now c.args.text.now c.loop-passed.rest.now row c.in-Some.behind.now passed c.requires (omega (arith, c.count_rows-passed-end.ensures.value, c.loop-passed-test.true)) c.loop-passed.invariant.left c.in-Some.ensures.lines in
    record {
      left = next.left;
      digits = c.in_ok-push_digits.ensures.added ∙ ap (λ (ds : List ℕ). ds ++ digits_of row) c.loop-passed.invariant.digits ∙ flat_map_more digits_of [] (take passed ls) row ∙ ap (λ (rows : List (List ℕ)). flat_map digits_of rows) (sym next.passed);
    }

pub unreachable-requires : goal.unreachable-requires
unreachable-requires c =
    some_row c.args.header.now c.args.text.now c.loop-passed.rest.now c.loop-passed.passed c.requires (omega (arith, c.count_rows-passed-end.ensures.value, c.loop-passed-test.true)) c.loop-passed.invariant.left c.in_default.ensures.lines
