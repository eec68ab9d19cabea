use Rattle.std.proofs.Common.{ℕ, List, length, All, ap, ◌∙◌, sym, subst}
use Rattle.mt_import.specs.Texts.{IsRow}
use Rattle.mt_import.proofs.ReadingLemmas.{has_rows, refused_source}
use Rattle.mt_import.proofs.import_text.ImportText.of.Goals as goal

pub returns-in-Err-read_source : goal.returns-in-Err-read_source
returns-in-Err-read_source c =
    let start = c.in-Ok.ensures in
    let refused = c.in-Err-read_source.ensures in
    refused_source c.args.bytes.now c.in-Ok.start.1.now c.in-Ok.start.0 c.in-Err-read_source.refused start.0 start.2 refused.0 refused.1

pub invariant_of-result : goal.invariant_of-result
invariant_of-result c =
    let h = c.in-Ok.start.0 in
    let text = c.in-Ok-read_source.source.1.now in
    let taken = c.in_ok-rest.ensures.1 in
    let header = c.in-Ok.ensures.2.header.header in
    let rows = has_rows h text c.in_ok-rest.rest.now taken.0 header taken.1 in
    record {
      header = header;
      number = ap (λ (ls : List (List ℕ)). length ls) rows ∙ taken.1.number;
      each = subst (All (IsRow h.q h.m)) (sym rows) taken.1.each;
    }
