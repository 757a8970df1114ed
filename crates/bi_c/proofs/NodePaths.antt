use Rattle.std.proofs.Common.{◌≡◌, ◌+◌, ◌<◌, ◌++◌, ℕ, List, [], ◌∷◌, Option, Some, None, length, take, drop, get_or, refl, sym, ap, ◌∙◌}
use Rattle.std.proofs.Common.{add-one, suc, take-append-drop}
use Rattle.std.proofs.Math.Seq.{drop-cons}
use Rattle.bi_blob.specs.Lookups.{Sibling, node_named}
use Rattle.bi_blob.specs.Tree.{FileNode}
use Rattle.bi_c.specs.NodeElements.{node_below}

-- A list of names selects a node: each name selects a child of the node that the names before it select.

-- If no name is left, the node itself is selected.
below_nothing : (found : Option (Sibling FileNode)) → node_below found [] ≡ found
below_nothing None = refl
below_nothing (Some found) = refl

-- Two lists of names, one after the other, select what the second list selects from the node that the first one selects.
below_append : (start : Option (Sibling FileNode)) (names later : List (List ℕ)) →
    node_below start (names ++ later) ≡ node_below (node_below start names) later
below_append None names later = refl
below_append (Some first) [] later = refl
below_append (Some first) (name ∷ names) later = below_append (node_named first.children name) names later

-- One more name selects a child of the node that the names before it select.
pub one_more_name : (start : Option (Sibling FileNode)) (names : List (List ℕ)) (name : List ℕ) (at : Sibling FileNode)
    (child : Option (Sibling FileNode)) → node_below start names ≡ Some at → node_named at.children name ≡ child →
    node_below start (names ++ name ∷ []) ≡ child
one_more_name start names name at child is has =
    below_append start names (name ∷ [])
    ∙ ap (λ found. node_below found (name ∷ [])) is
    ∙ below_nothing (node_named at.children name)
    ∙ has

-- If that node has no such child, the whole list of names selects no node.
pub no_such_child : (start : Option (Sibling FileNode)) (all : List (List ℕ)) (index : ℕ) (name : List ℕ) (at : Sibling FileNode) →
    index < length all → name ≡ get_or all index name → node_below start (take index all) ≡ Some at →
    node_named at.children name ≡ None → node_below start all ≡ None
no_such_child start all index name at within is leads none =
    let first : drop index all ≡ name ∷ drop (index + 1) all =
    rw add-one (drop-cons all index name within ∙ ap (λ it. it ∷ drop (suc index) all) (sym is)) in
    ap (node_below start) (sym (take-append-drop index all))
    ∙ below_append start (take index all) (drop index all)
    ∙ ap (λ found. node_below found (drop index all)) leads
    ∙ ap (node_below (Some at)) first
    ∙ ap (λ found. node_below found (drop (index + 1) all)) none
