-- The addresses, and which of them a target has.
use Rattle.std.specs.Prelude.{◌≡◌, ℕ, ◌^◌, ◌<◌, List, [], ◌∷◌, codes, decimal, IsAscii, None, Result, Ok, Err}
use Rattle.matchit.specs.Order.{placed}
use Rattle.matchit.specs.Route.{Scan, parse_route}
use Rattle.matchit.specs.Router.{RouteOf, route_from, nearest}
use Rattle.matchit.specs.Rows.{RowsOf}
use Rattle.matchit.specs.declared.error.InsertError.{InsertError}
use Rattle.mt_cells.specs.declared.asks.Kind.TheVariants as kind
use Rattle.mt_http.specs.declared.routes.Address.{Address}
use Rattle.mt_http.specs.declared.routes.Address.TheVariants as address

abbrev pub Routes : Type 0
Routes = RowsOf (RouteOf Address)

abbrev pub with_read : Result Scan InsertError → Address → Routes → Routes
with_read (Ok s) a rows = placed (s.pattern, route_from s a) rows
with_read (Err e) a rows = rows

-- the routes with one more
abbrev pub with_route : List ℕ → Address → Routes → Routes
with_route text a rows = with_read (parse_route text) a rows

abbrev pub FitsRead : Result Scan InsertError → Routes → Type 0
FitsRead (Ok s) rows = nearest s.pattern rows ≡ None
FitsRead (Err e) rows = ⊥

-- it is a route, and none of the routes is in its way
abbrev pub FitsRoute : List ℕ → Routes → Type 0
FitsRoute text rows = FitsRead (parse_route text) rows

unfoldable pub routes_1 : Routes
routes_1 =
    with_route (codes "/tree/sequence/{q}/{m}/{s}") (address.Tree kind.Seq)
    (with_route (codes "/tree/ooa/{q}/{m}/{s}/{depth}") (address.Tree kind.Ooa)
    (with_route (codes "/tree/oa/{q}/{m}/{s}") (address.Tree kind.Oa)
    (with_route (codes "/tree/net/{q}/{m}/{s}") (address.Tree kind.Net)
    (with_route (codes "/sequence/{q}/{m}/{s}") (address.Value kind.Seq)
    (with_route (codes "/ooa/{q}/{m}/{s}/{depth}") (address.Value kind.Ooa)
    (with_route (codes "/oa/{q}/{m}/{s}") (address.Value kind.Oa)
    (with_route (codes "/net/{q}/{m}/{s}") (address.Value kind.Net) [])))))))

-- all addresses
unfoldable pub routes_of : Routes
routes_of =
    with_route (codes "/import") address.Import
    (with_route (codes "/export") address.Export
    (with_route (codes "/version") address.Version
    (with_route (codes "/least-m/{q}/{s}/{k}") address.LeastM
    (with_route (codes "/table/{q}/{m}") address.Table
    (with_route (codes "/matrix/sequence/{q}/{m}/{s}") (address.Matrix kind.Seq)
    (with_route (codes "/matrix/ooa/{q}/{m}/{s}/{depth}") (address.Matrix kind.Ooa)
    (with_route (codes "/matrix/oa/{q}/{m}/{s}") (address.Matrix kind.Oa)
    (with_route (codes "/matrix/net/{q}/{m}/{s}") (address.Matrix kind.Net) routes_1))))))))

-- names of parameters, and the parts of the path that they took
abbrev pub Pairs : Type 0
Pairs = List (List ℕ × List ℕ)

abbrev pub ArePartsAscii : Pairs → Type 0
ArePartsAscii [] = Unit {0}
ArePartsAscii (p ∷ ps) = IsAscii p.1 × ArePartsAscii ps

-- the first part is this number, and rest the others
abbrev pub IsNumberFirst : Pairs → ℕ → Pairs → Type 0
IsNumberFirst [] n rest = ⊥
IsNumberFirst (p ∷ ps) n rest = (n < 2 ^ 64) × (p.1 ≡ decimal n) × (rest ≡ ps)
