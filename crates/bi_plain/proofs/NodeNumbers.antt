use Rattle.std.proofs.Common.{◌≡◌, ℕ, zero, suc, ◌<◌, List, [], ◌∷◌, ◌++◌, length, get_or, sym, ap, subst, ◌∙◌, arith, append_assoc}
use Rattle.std.proofs.Common.{append-nil}
use Rattle.bi_blob.specs.Tree.{Nodes, as_nodes, node_count}
use Rattle.bi_tree.specs.Properties.{TreePropertyModel}
use Rattle.bi_tree.specs.TreeNodes.{TreeNodeModel, below, nodes_of_models}
use Rattle.bi_plain.specs.Ranked.{all_numbers, own_numbers}

-- The numbers of the names of nodes, one node after the other.

-- Those of a node are before those of the nodes after it.
pub first_numbers : (top : TreeNodeModel) (later : Nodes (List TreePropertyModel)) →
    own_numbers top.own ++ (all_numbers top.children ++ all_numbers later) ≡ all_numbers (as_nodes (below top)) ++ all_numbers later
first_numbers top later =
    sym (append_assoc (own_numbers top.own) (all_numbers top.children) (all_numbers later))
    ∙ ap (λ l. (own_numbers top.own ++ l) ++ all_numbers later) (sym (append-nil (all_numbers top.children)))

-- A node among others has fewer nodes below it than they are.
fewer_among : (tops : List TreeNodeModel) (index : ℕ) (other : TreeNodeModel) → index < length tops →
    node_count (get_or tops index other).children < node_count (nodes_of_models tops)
fewer_among [] index other within = absurd (omega (arith, within))
fewer_among (first ∷ later) zero other within = omega arith
fewer_among (first ∷ later) (suc index) other within =
    let less = fewer_among later index other (omega (arith, within)) in omega (arith, less)

pub fewer_nodes : (tops : List TreeNodeModel) (index : ℕ) (child : TreeNodeModel) → index < length tops →
    child ≡ get_or tops index child → node_count child.children < node_count (nodes_of_models tops)
fewer_nodes tops index child within is =
    subst (λ one. node_count one.children < node_count (nodes_of_models tops)) (sym is) (fewer_among tops index child within)
