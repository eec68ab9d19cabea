use Rattle.std.proofs.Common.{◌≡◌, drop, codes}
use Rattle.std.specs.List.{list_any}
use Rattle.mt_http.specs.Fields.{is_same, values_of}
use Rattle.mt_http.specs.Parsed.{fields_at}
use Rattle.mt_http.proofs.fields.says_close.Given as goal

-- the fields that are left decide
abbrev pub invariant-loop-header : goal.invariant-loop-header
invariant-loop-header l =
    list_any (λ v. is_same v (codes "close")) (values_of (codes "connection") (fields_at l.bytes (drop l.header-index l.headers)))
    ≡ list_any (λ v. is_same v (codes "close")) (values_of (codes "connection") (fields_at l.bytes l.headers))
