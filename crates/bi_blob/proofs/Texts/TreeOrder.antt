use Rattle.std.proofs.Common.{◌≡◌, List, ◌∷◌, ◌++◌, map, refl, sym, ap, subst, nat_cmp, rules}
use Rattle.std.specs.List.{AllByRecursion}
use Rattle.std.specs.Cmp.Lexicographic.{slice_cmp}
use Rattle.std.specs.FinMap.{entries, from_entries}
use Rattle.bi_base.proofs.ListMembers.{each-append, each-front, each-back, each-map, each-map_back}
use Rattle.bi_blob.specs.Tree.{Nodes, none, node, Property, names, with_each, depth, IsNew, AreProperties, AreNodes}
use Rattle.bi_blob.specs.Events.{NodeProperty, NodeEnd, events}
use Rattle.bi_blob.specs.Layout.{AreEventBytes}
use Rattle.bi_blob.specs.TextLaws.{ContentMayBeOrdered}
use Rattle.bi_blob.proofs.Blobs.BlockEnds.{depth-with_each}
use Rattle.bi_blob.proofs.Texts.PropertyOrder.{each-in_byte_order, AreProperties-in_byte_order}

-- A tree in normal order is a tree, as deep and with the same names and values.

-- Nodes in the normal order of their properties.
abbrev pub nodes_in_order : Nodes (List Property) → Nodes (List Property)
nodes_in_order nodes = with_each entries (with_each (from_entries {R = slice_cmp nat_cmp}) nodes)

-- Their names are the same.
names-in_byte_order : (nodes : Nodes (List Property)) → names (nodes_in_order nodes) ≡ names nodes
names-in_byte_order none = refl
names-in_byte_order (node name properties children later) = ap (λ l. name ∷ l) (names-in_byte_order later)

-- They are nodes that a tree may have.
pub AreNodes-in_byte_order : (nodes : Nodes (List Property)) → AreNodes AreProperties nodes → AreNodes AreProperties (nodes_in_order nodes)
AreNodes-in_byte_order none are = tt
AreNodes-in_byte_order (node name properties children later) are = (
  record {
    is_name = are.0.is_name;
    is_own = AreProperties-in_byte_order properties are.0.is_own;
    is_new = subst (IsNew name) (sym (names-in_byte_order later)) are.0.is_new;
  },
  AreNodes-in_byte_order children are.1,
  AreNodes-in_byte_order later are.2,
)

-- Their names and values are bytes.
pub AreEventBytes-in_byte_order : (nodes : Nodes (List Property)) → AllByRecursion AreEventBytes (events nodes) →
    AllByRecursion AreEventBytes (events (nodes_in_order nodes))
AreEventBytes-in_byte_order none bytes = tt
AreEventBytes-in_byte_order (node name properties children later) bytes =
    let own = each-front AreEventBytes (map NodeProperty properties) (events children ++ (NodeEnd ∷ events later)) bytes.1 in
    let below = each-back AreEventBytes (map NodeProperty properties) (events children ++ (NodeEnd ∷ events later)) bytes.1 in
    let inner = each-front AreEventBytes (events children) (NodeEnd ∷ events later) below in
    let outer = each-back AreEventBytes (events children) (NodeEnd ∷ events later) below in (
      bytes.0,
      each-append AreEventBytes (map NodeProperty (entries (from_entries {R = slice_cmp nat_cmp} properties)))
          (events (nodes_in_order children) ++ (NodeEnd ∷ events (nodes_in_order later)))
          (each-map AreEventBytes NodeProperty (entries (from_entries {R = slice_cmp nat_cmp} properties))
          (each-in_byte_order (λ property. AreEventBytes (NodeProperty property)) properties
          (each-map_back AreEventBytes NodeProperty properties own)))
          (each-append AreEventBytes (events (nodes_in_order children)) (NodeEnd ∷ events (nodes_in_order later))
          (AreEventBytes-in_byte_order children inner)
          (tt, AreEventBytes-in_byte_order later outer.1)),
    )

-- They are as deep.
pub depth-in_byte_order : (nodes : Nodes (List Property)) → depth (nodes_in_order nodes) ≡ depth nodes
depth-in_byte_order nodes = search (rules, depth-with_each)

-- Content may be laid out in normal order.
pub may_be_ordered : ContentMayBeOrdered
may_be_ordered cpu reservations root is =
    search (rules, AreProperties-in_byte_order, AreNodes-in_byte_order, AreEventBytes-in_byte_order, depth-in_byte_order)
