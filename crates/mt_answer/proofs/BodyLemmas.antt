-- The JSON data of nodes and of values.
use Rattle.std.proofs.Common.{◌≡◌, ℕ, ◌+◌, ◌-◌, ◌<◌, List, [], ◌∷◌, ◌++◌, length, map, take, get_or, codes, decimal, false, ◌||◌, refl, sym, ap, ap₂, ◌∙◌, arith}
use Rattle.std.proofs.lemmas.List.{append_assoc, length-take-le, map-append, take_more}
use Rattle.serde_json.specs.View.{view, items_of}
use Rattle.serde_json.specs.Written.{compact_text, has_float, items_have_float}
use Rattle.serde_json.specs.declared.value.Value.{Value}
use Rattle.serde_json.proofs.OnLiterals.{serde_json_on_literals}
use Rattle.mt_cells.specs.declared.asks.Kind.{Kind}
use Rattle.mt_cells.specs.declared.asks.Kind.TheVariants.{Net, Oa, Ooa, Seq}
use Rattle.mt_cells.specs.declared.asks.Ask.{Ask}
use Rattle.mt_cells.specs.Texts.{kind_text}
use Rattle.mt_derive.specs.declared.nodes.Made.{Made}
use Rattle.mt_derive.specs.declared.nodes.Made.TheVariants as made
use Rattle.mt_derive.specs.declared.nodes.Node.{Node}
use Rattle.mt_answer.specs.Spelled.{asked_spelled, value_spelled}
use Rattle.mt_answer.specs.Bodies.{depth_of, value_data, parents_data, node_data, nodes_data, tree_data}

pub no_nodes : (number : ℕ) → nodes_data number [] ≡ []
unfolding nodes_data
no_nodes number = refl

one_node : (number : ℕ) (nodes : List Node) (node : Node) → nodes_data number (nodes ++ node ∷ []) ≡ nodes_data number nodes ++ node_data (number + length nodes) node ∷ []
unfolding nodes_data
one_node number [] node = let same : number ≡ number + 0 = omega arith in ap (λ z. node_data z node ∷ []) same
one_node number (x ∷ nodes) node =
    let next : number + 1 + length nodes ≡ number + length (x ∷ nodes) = omega arith in
    ap (λ z. node_data number x ∷ z) (one_node (number + 1) nodes node ∙ ap (λ z. nodes_data (number + 1) nodes ++ node_data z node ∷ []) next)

-- one more of the first nodes
pub node_step : (nodes : List Node) (place : ℕ) (none : Node) (values : List Value) (value : Value) → place < length nodes → map view values ≡ nodes_data 1 (take place nodes)
    → view value ≡ node_data (place + 1) (get_or nodes place none) → map view (values ++ value ∷ []) ≡ nodes_data 1 (take (place + 1) nodes)
node_step nodes place none values value l before e =
    let count : 1 + length (take place nodes) ≡ place + 1 = omega (arith, length-take-le place nodes (omega arith)) in
    let node = get_or nodes place none in
    map-append view values (value ∷ []) ∙ ap (λ z. z ++ view value ∷ []) before ∙ ap (λ z. nodes_data 1 (take place nodes) ++ z ∷ []) e
    ∙ ap (λ z. nodes_data 1 (take place nodes) ++ node_data z node ∷ []) (sym count)
    ∙ sym (one_node 1 (take place nodes) node) ∙ ap (nodes_data 1) (sym (take_more nodes place none l))

-- ---- no number is a float

parents_whole : (m : Made) → items_have_float (items_of (parents_data m)) ≡ false
parents_whole made.Zero = refl
parents_whole made.Constant = refl
parents_whole made.Identity = refl
parents_whole made.Parity = refl
parents_whole made.Niederreiter = refl
parents_whole (made.Import n) = refl
parents_whole (made.One r p) = refl
parents_whole (made.Two r p q) = refl

nodes_whole : (number : ℕ) (nodes : List Node) → items_have_float (items_of (nodes_data number nodes)) ≡ false
unfolding nodes_data
nodes_whole number [] = refl
nodes_whole number (node ∷ nodes) =
    let one : has_float (node_data number node) ≡ false = ap (λ z. z || false) (parents_whole node.made) in
    ap₂ (λ x y. x || y) one (nodes_whole (number + 1) nodes)

pub tree_whole : (nodes : List Node) (version : ℕ) → has_float (tree_data nodes version) ≡ false
tree_whole nodes version = ap (λ z. z || false) (nodes_whole 1 nodes)

-- ---- values

-- the same parts, one behind another
joined : (x d y k z kind u m v q w s x' since y' t z' version end : List ℕ)
    → x ++ d ++ y ++ k ++ (z ++ kind ++ u ++ m ++ v ++ q ++ w ++ s) ++ x' ++ since ++ y' ++ t ++ z' ++ version ++ end
    ≡ x ++ (d ++ (y ++ (k ++ (z ++ (kind ++ (u ++ (m ++ (v ++ (q ++ (w ++ (s ++ (x' ++ (since ++ (y' ++ (t ++ (z' ++ (version ++ end)))))))))))))))))
joined x d y k z kind u m v q w s x' since y' t z' version end = simp append_assoc

parts_joined : (a : Ask) (k t since version : ℕ) → value_spelled a k t since version
    ≡ codes "{\"depth\":" ++ (decimal (depth_of a.kind a.m a.depth) ++ (codes ",\"k\":" ++ (decimal k ++ (codes ",\"kind\":\"" ++ (kind_text a.kind
    ++ (codes "\",\"m\":" ++ (decimal a.m ++ (codes ",\"q\":" ++ (decimal a.q ++ (codes ",\"s\":" ++ (decimal a.s ++ (codes ",\"since\":" ++ (decimal since
    ++ (codes ",\"t\":" ++ (decimal t ++ (codes ",\"version\":" ++ (decimal version ++ 125 ∷ [])))))))))))))))))
unfolding value_spelled asked_spelled
parts_joined a k t since version =
    joined (codes "{\"depth\":") (decimal (depth_of a.kind a.m a.depth)) (codes ",\"k\":") (decimal k) (codes ",\"kind\":\"") (kind_text a.kind)
    (codes "\",\"m\":") (decimal a.m) (codes ",\"q\":") (decimal a.q) (codes ",\"s\":") (decimal a.s) (codes ",\"since\":") (decimal since)
    (codes ",\"t\":") (decimal t) (codes ",\"version\":") (decimal version) (125 ∷ [])

spelled_by : (kind : Kind) (q m s depth k since version : ℕ)
    → value_spelled (record { kind = kind; q = q; m = m; s = s; depth = depth }) k (m - k) since version
    ≡ compact_text (value_data (record { kind = kind; q = q; m = m; s = s; depth = depth }) k since version)
unfolding serde_json_on_literals
spelled_by Net q m s depth k since version = parts_joined (record { kind = Net; q = q; m = m; s = s; depth = depth }) k (m - k) since version
spelled_by Oa q m s depth k since version = parts_joined (record { kind = Oa; q = q; m = m; s = s; depth = depth }) k (m - k) since version
spelled_by Ooa q m s depth k since version = parts_joined (record { kind = Ooa; q = q; m = m; s = s; depth = depth }) k (m - k) since version
spelled_by Seq q m s depth k since version = parts_joined (record { kind = Seq; q = q; m = m; s = s; depth = depth }) k (m - k) since version

-- what is spelled out is the compact text
pub spelled_is : (a : Ask) (k t since version : ℕ) → t ≡ a.m - k → value_spelled a k t since version ≡ compact_text (value_data a k since version)
spelled_is a k t since version e = ap (λ z. value_spelled a k z since version) e ∙ spelled_by a.kind a.q a.m a.s a.depth k since version
