-- A target that has an address.
use Rattle.std.proofs.Common.{◌≡◌, ℕ, List, Option, None, Some, sym, ◌∙◌, subst}
use Rattle.std.specs.Prelude.{IsAscii, IfSome, IfNone}
use Rattle.matchit.specs.Params.{walk}
use Rattle.matchit.specs.Router.{RouteOf}
use Rattle.matchit.specs.Seek.{first}
use Rattle.mt_http.specs.declared.routes.Address.{Address}
use Rattle.mt_http.specs.declared.finding.Found.{Found}
use Rattle.mt_http.specs.Addresses.{routes_of}
use Rattle.mt_http.specs.Finding.{path_of, query_of, IsFor, Finds}

some_same : (a b : RouteOf Address) → Some a ≡ Some b → a ≡ b
some_same a b e = cc

-- what the route of a path asks is what the target asks
pub finds_by : (target path : List ℕ) (query : Option (List ℕ)) (route : RouteOf Address) (r : Option Found)
    → path ≡ path_of target → query ≡ query_of target → IsAscii path → first routes_of path ≡ Some route
    → IfSome r (IsFor route.value (walk route.pattern route.text path route.names 0 0) query)
    → IfNone r ((f : Found) → ¬ IsFor route.value (walk route.pattern route.text path route.names 0 0) query f)
    → Finds target r
finds_by target path query route (Some f) e q ascii is found none = record {
  ascii = subst IsAscii e ascii;
  route = route;
  is_first = subst (λ (p : List ℕ). first routes_of p ≡ Some route) e is;
  asks = subst (λ (p : List ℕ). IsFor route.value (walk route.pattern route.text p route.names 0 0) (query_of target) f) e
      (subst (λ (k : Option (List ℕ)). IsFor route.value (walk route.pattern route.text path route.names 0 0) k f) q found);
}
finds_by target path query route None e q ascii is found none = λ f h.
    let same = some_same h.route route (sym h.is_first ∙ subst (λ (p : List ℕ). first routes_of p ≡ Some route) e is) in
    let asks = subst (λ (s : RouteOf Address). IsFor s.value (walk s.pattern s.text (path_of target) s.names 0 0) (query_of target) f) same h.asks in
    none f (subst (λ (p : List ℕ). IsFor route.value (walk route.pattern route.text p route.names 0 0) query f) (sym e)
    (subst (λ (k : Option (List ℕ)). IsFor route.value (walk route.pattern route.text (path_of target) route.names 0 0) k f) (sym q) asks))
