-- The lines of nodes.
use Rattle.std.proofs.Common.{◌≡◌, ℕ, ◌+◌, ◌<◌, List, [], ◌∷◌, ◌++◌, length, take, get_or, refl, sym, ap, ◌∙◌, arith}
use Rattle.std.proofs.lemmas.List.{append-nil, append_assoc, length-take-le, take_more}
use Rattle.mt_derive.specs.declared.nodes.Node.{Node}
use Rattle.mt_answer.specs.Texts.{node_text, nodes_text}

pub no_lines : (number : ℕ) → nodes_text number [] ≡ []
unfolding nodes_text
no_lines number = refl

pub one_line : (number : ℕ) (nodes : List Node) (node : Node) → nodes_text number (nodes ++ node ∷ []) ≡ nodes_text number nodes ++ node_text (number + length nodes) node
unfolding nodes_text
one_line number [] node = let same : number ≡ number + 0 = omega arith in append-nil (node_text number node) ∙ ap (λ z. node_text z node) same
one_line number (x ∷ nodes) node =
    let next : number + 1 + length nodes ≡ number + length (x ∷ nodes) = omega arith in
    ap (λ z. node_text number x ++ z) (one_line (number + 1) nodes node)
    ∙ sym (append_assoc (node_text number x) (nodes_text (number + 1) nodes) (node_text (number + 1 + length nodes) node))
    ∙ ap (λ z. (node_text number x ++ nodes_text (number + 1) nodes) ++ node_text z node) next

-- one more of the first nodes
pub line_step : (nodes : List Node) (place : ℕ) (none : Node) (old new : List ℕ) → place < length nodes → old ≡ nodes_text 1 (take place nodes)
    → new ≡ old ++ node_text (place + 1) (get_or nodes place none) → new ≡ nodes_text 1 (take (place + 1) nodes)
line_step nodes place none old new l before e =
    let count : 1 + length (take place nodes) ≡ place + 1 = omega (arith, length-take-le place nodes (omega arith)) in
    let node = get_or nodes place none in
    e ∙ ap (λ z. z ++ node_text (place + 1) node) before
    ∙ ap (λ z. nodes_text 1 (take place nodes) ++ node_text z node) (sym count)
    ∙ sym (one_line 1 (take place nodes) node) ∙ ap (nodes_text 1) (sym (take_more nodes place none l))

-- the parts of a line
pub joined : (text number rule rest : List ℕ) → ((text ++ number) ++ rule) ++ rest ≡ text ++ ((number ++ rule) ++ rest)
joined text number rule rest = append_assoc (text ++ number) rule rest ∙ append_assoc text number (rule ++ rest) ∙ ap (λ z. text ++ z) (sym (append_assoc number rule rest))
