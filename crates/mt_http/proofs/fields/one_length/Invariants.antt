use Rattle.std.proofs.Common.{◌≡◌, drop, None}
use Rattle.mt_http.specs.Parsed.{fields_at}
use Rattle.mt_http.proofs.FieldLemmas.{go_on}
use Rattle.mt_http.proofs.fields.one_length.Given as goal

-- going on from what was found gives the answer
abbrev pub invariant-loop-header : goal.invariant-loop-header
invariant-loop-header l =
    go_on l.found (fields_at l.bytes (drop l.header-index l.headers)) ≡ go_on None (fields_at l.bytes l.headers)
