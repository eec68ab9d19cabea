use Rattle.std.proofs.Common.{ℕ, ◌+◌, sym, ◌∙◌, ap, Option, Result, drop, arith}
use Rattle.std.proofs.lemmas.List.{at_drop_all, at_drop_more}
use Rattle.mt_http.specs.Parsed.{fields_at}
use Rattle.mt_http.proofs.FieldLemmas.{go_on, then_go, go_on_none}
use Rattle.mt_http.proofs.fields.one_length.Goals as goal

pub returns-in-Err : goal.returns-in-Err
returns-in-Err c =
    let fields = fields_at c.args.bytes.now in
    let turn = at_drop_more (λ hs. go_on c.loop-header.found (fields hs)) c.args.headers.now c.loop-header.header-index
    (record { name = record { start = 0; end = 0 }; value = record { start = 0; end = 0 } }) c.loop-header-test.true in
    let go : Option ℕ → Result (Option ℕ) _ = λ next. go_on next (fields (drop (c.loop-header.header-index + 1) c.args.headers.now)) in
    sym (turn ∙ ap (then_go go) (sym c.next_found.ensures ∙ c.in-Err.is)) ∙ c.loop-header.invariant
    ∙ go_on_none (fields c.args.headers.now)

pub returns : goal.returns
returns c =
    let fields = fields_at c.args.bytes.now in
    sym (at_drop_all (λ hs. go_on c.loop-header.found (fields hs)) c.args.headers.now c.loop-header.header-index (omega arith))
    ∙ c.loop-header.invariant ∙ go_on_none (fields c.args.headers.now)
