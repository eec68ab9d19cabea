use Rattle.std.proofs.Common.{◌≡◌, drop, codes}
use Rattle.std.specs.List.{list_any}
use Rattle.mt_http.specs.Fields.{is_same}
use Rattle.mt_http.specs.Parsed.{fields_at}
use Rattle.mt_http.proofs.fields.has_coding.Given as goal

-- the fields that are left decide
abbrev pub invariant-loop-header : goal.invariant-loop-header
invariant-loop-header l =
    list_any (λ f. is_same f.0 (codes "transfer-encoding")) (fields_at l.bytes (drop l.header-index l.headers))
    ≡ list_any (λ f. is_same f.0 (codes "transfer-encoding")) (fields_at l.bytes l.headers)
