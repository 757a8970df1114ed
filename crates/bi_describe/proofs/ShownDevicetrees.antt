use Rattle.std.proofs.Common.{◌≡◌, ℕ, List, [], ◌∷◌, ◌++◌, map, sym, rules, subst}
use Rattle.std.specs.FinMap.{entries, from_entries}
use Rattle.std.specs.List.{AllByRecursion}
use Rattle.bi_base.specs.Limits.{Limits}
use Rattle.bi_base.proofs.ListMembers.{each-back, each-front}
use Rattle.bi_blob.specs.Events.{NodeEnd, NodeProperty, events}
use Rattle.bi_blob.specs.Layout.{AreEventBytes, IsContent}
use Rattle.bi_blob.specs.Tree.{AreNodes, AreProperties, IsPropertyName, Nodes, none, node, Property, PropertyMap, Root, properties_of}
use Rattle.bi_blob.specs.Tree.{tree_without_places, with_each}
use Rattle.bi_blob.proofs.Texts.TextContent.{blob_has_content}
use Rattle.bi_fit.specs.ImageTree.{ArePropertiesByName, HaveByteNames}
use Rattle.bi_fit.proofs.TreeContents.{AreBlobProperties, good-entries, properties-from_entries}
use Rattle.bi_fit.proofs.TreeShapes.{AreNodes-with_each, bytes-with_each}
use Rattle.bi_describe.specs.Descriptions.{plain_node}
use Rattle.bi_describe.specs.Devicetrees.{Devicetree, IsDevicetree}
use Rattle.bi_describe.proofs.ShownNodes.{AreShown, plain_shown}

-- What a description shows of the nodes of a devicetree are bytes.

good_properties : (properties : List Property) → AllByRecursion (λ property. IsPropertyName property.0) properties →
    AllByRecursion AreEventBytes (map NodeProperty properties) → AreBlobProperties properties
good_properties [] named bytes = tt
good_properties (property ∷ later) named bytes = search (rules, good_properties later named.1 bytes.1)

good_nodes : (nodes : Nodes (List Property)) → AreNodes AreProperties nodes → AllByRecursion AreEventBytes (events nodes) →
    AreNodes AreBlobProperties nodes × HaveByteNames nodes
good_nodes none are bytes = (tt, tt)
good_nodes (node name properties children later) are bytes =
    let own = each-front AreEventBytes (map NodeProperty properties) (events children ++ (NodeEnd ∷ events later)) bytes.1 in
    let below = each-back AreEventBytes (map NodeProperty properties) (events children ++ (NodeEnd ∷ events later)) bytes.1 in
    let inner = good_nodes children are.1 (each-front AreEventBytes (events children) (NodeEnd ∷ events later) below) in
    let outer = good_nodes later are.2 (each-back AreEventBytes (events children) (NodeEnd ∷ events later) below).1 in (
      (
        record { is_name = are.0.is_name; is_own = good_properties properties are.0.is_own.named own; is_new = are.0.is_new },
        inner.0,
        outer.0,
      ),
      (bytes.0, inner.1, outer.1),
    )

-- The nodes of a devicetree, and the properties of its root.
pub record IsShownRoot (root : Root PropertyMap) : Type 0 where
  pub properties : AreBlobProperties (entries root.own)
  pub nodes : AreShown (with_each plain_node root.children)

pub root_shown : (limits : Limits) (payload : List ℕ) (tree : Devicetree) → IsDevicetree limits payload tree → IsShownRoot tree.root
root_shown limits payload tree is = subst IsShownRoot (sym is.is_root) (record {
  properties = good-entries (from_entries own) (properties-from_entries own (good_properties own content.is_tree.is_own.named
      (each-front AreEventBytes (map NodeProperty own) (events plain ++ (NodeEnd ∷ [])) content.bytes.1)));
  nodes = plain_shown (with_each from_entries plain)
      (AreNodes-with_each AreBlobProperties ArePropertiesByName from_entries properties-from_entries plain good.0)
      (bytes-with_each from_entries plain good.1);
})
  where
    content : IsContent tree.cpu tree.reservations (tree_without_places is.root)
    content = blob_has_content payload tree.cpu tree.reservations is.root is.blob

    own : List Property
    own = properties_of is.root.own

    plain : Nodes (List Property)
    plain = with_each properties_of is.root.children

    good : AreNodes AreBlobProperties plain × HaveByteNames plain
    good = good_nodes plain content.is_tree.children
        (each-front AreEventBytes (events plain) (NodeEnd ∷ [])
        (each-back AreEventBytes (map NodeProperty own) (events plain ++ (NodeEnd ∷ [])) content.bytes.1))
