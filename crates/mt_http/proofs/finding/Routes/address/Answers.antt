use Rattle.std.proofs.Common.{◌≡◌, ℕ, List, sym, ◌∙◌, subst}
use Rattle.std.specs.Prelude.{IsAscii, Some}
use Rattle.std.specs.Option.{option_copied}
use Rattle.matchit.specs.Rows.{RowsOf}
use Rattle.matchit.specs.Router.{RouteOf}
use Rattle.matchit.specs.Seek.{first}
use Rattle.mt_http.specs.declared.routes.Address.{Address}
use Rattle.mt_http.specs.Addresses.{routes_of}
use Rattle.mt_http.proofs.WordLemmas.{parts_ascii}
use Rattle.mt_http.proofs.FindLemmas.{finds_by}
use Rattle.mt_http.proofs.finding.Routes.address.Goals as goal

pub read_found-requires : goal.read_found-requires
read_found-requires c =
    let p = c.in-Ok.found.params in
    parts_ascii p.pattern.now p.text.now p.path.now p.names.now 0 0
    (subst IsAscii (sym (c.in-Ok.ensures.path ∙ c.in-Some.ensures.found.0)) c.in-Some.ensures.found.1)

pub returns-in-Ok : goal.returns-in-Ok
returns-in-Ok c =
    let found = c.in-Ok.found in
    let p = found.params in
    let route : RouteOf Address = record { pattern = p.pattern.now; text = p.text.now; names = p.names.now; value = found.value.now } in
    let text = c.in-Some.ensures.found in
    let path_is = c.in-Ok.ensures.path in
    let is_first : first routes_of p.path.now ≡ Some route =
    subst (λ (t : List ℕ). first routes_of t ≡ Some route) (sym path_is)
    (subst (λ (rows : RowsOf (RouteOf Address)). first rows c.in-Some.text.now ≡ Some route) c.args.self.now.routed c.in-Ok.ensures.found) in
    finds_by c.args.target.now p.path.now (option_copied c.cut.result.1) route c.read_found.result
    (path_is ∙ text.0 ∙ c.cut.ensures.path) c.cut.ensures.query (subst IsAscii (sym (path_is ∙ text.0)) text.1) is_first
    c.read_found.ensures.found c.read_found.ensures.none
