use Rattle.std.specs.Prelude.{ℕ, List, [], ◌∷◌, Option, None, filter, not}
use Rattle.bi_blob.specs.Tree.{Nodes, none, node, Root, PropertyMap, EachOwn, with_each}
use Rattle.bi_fit.specs.ImageTree.{without_payload}
use Rattle.bi_fit.specs.Names.{is_payload_name}
use Rattle.bi_fit.specs.Text.{with_payload}
use Rattle.bi_tree.specs.Properties.{TreePropertyModel}
use Rattle.bi_tree.specs.TreeNodes.{TreeNodeModel, nodes_of_models}
use Rattle.bi_tree.specs.Trees.{AreNumberedAmong, by_name}

-- Lists of nodes of a tree that can be changed.

-- The nodes, with the properties of each by name.
abbrev pub models_by_name : List TreeNodeModel → Nodes PropertyMap
models_by_name nodes = with_each by_name (nodes_of_models nodes)

-- The properties of each of these nodes, and of those below them, have distinct names, and among
-- these names the numbers that they give.
abbrev pub AreNumberedNodes : List (List ℕ) → List TreeNodeModel → Type 0
AreNumberedNodes names nodes = EachOwn (AreNumberedAmong names) (nodes_of_models nodes)

-- Properties without those that hold a payload or name its region.
abbrev pub without_payload_names : List TreePropertyModel → List TreePropertyModel
without_payload_names properties =
    filter (λ property. not (is_payload_name property.name)) properties

-- An image node with this payload, or none, as the value of `data`, and without the other
-- properties that hold a payload or name its region.
abbrev pub with_own_payload : Option (List ℕ) → Root PropertyMap → Root PropertyMap
with_own_payload payload image =
    record image { own = with_payload None 0 payload (without_payload image.own) }

-- The first of these payloads, if it is there, and the others.
abbrev pub first_or_none : List (Option (List ℕ)) → Option (List ℕ)
first_or_none [] = None
first_or_none (payload ∷ payloads) = payload

abbrev pub without_first : List (Option (List ℕ)) → List (Option (List ℕ))
without_first [] = []
without_first (payload ∷ payloads) = payloads

-- Image nodes with these payloads in their order. Those after the last payload have none.
abbrev pub with_own_payloads : List (Option (List ℕ)) → Nodes PropertyMap → Nodes PropertyMap
with_own_payloads payloads none = none
with_own_payloads payloads (node name own children later) =
    node name (with_payload None 0 (first_or_none payloads) (without_payload own)) children
    (with_own_payloads (without_first payloads) later)
