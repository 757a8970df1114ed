use Rattle.std.proofs.Common.{◌≡◌, ◌≤◌, length, flat_map, ℕ, Bool, true, false, List, [], Option, Some, None, option_map, is_some, sym}
use Rattle.std.proofs.Common.{arith, bytes_eq, refl, ap, true≢false, ◌∙◌}
use Rattle.bi_blob.specs.Blob.{IsBlob, Reservation}
use Rattle.bi_blob.specs.Lookups.{node_named}
use Rattle.bi_blob.specs.Tree.{Nodes, none, node, AreDistinct, AreNodes, AreProperties, EachOwn, FileNode, PropertyMap, Root}
use Rattle.bi_blob.specs.Tree.{properties_of, with_each}
use Rattle.bi_blob.proofs.Texts.TextContent.{blob_has_content}
use Rattle.bi_fdt.specs.declared.node.NodeRef.{NodeRef}
use Rattle.bi_fdt.specs.Content.{Blob, root_of}
use Rattle.bi_fdt.specs.TreeNames.{AreNamesIn}
use Rattle.bi_fdt.specs.Views.{node_of}
use Rattle.bi_fit.specs.Content.{FitModel}
use Rattle.bi_fit.specs.ImageTree.{with_children_of, without_payloads}
use Rattle.bi_fit.specs.LongNames.{name_if_long}
use Rattle.bi_fit.specs.Names.{images_name}
use Rattle.bi_fit.specs.NormalNodes.{HasDistinctNames, nodes_by_name, properties_by_name}
use Rattle.bi_fit.proofs.LongNames.{long_names_of_tree, names_of_nodes}
use Rattle.bi_describe.specs.InsideTrees.{devicetree_of, long_names, long_names_below}
use Rattle.bi_describe.proofs.LongNames.{long_bytes, long_bytes_of_node}

-- Blobs inside payloads.

-- The names of the properties of each node are distinct.
nodes_distinct : (nodes : Nodes FileNode) → AreNodes AreProperties (with_each properties_of nodes) → EachOwn HasDistinctNames nodes
nodes_distinct none are = tt
nodes_distinct (node name own children later) are =
    (are.0.is_own.distinct, nodes_distinct children are.1, nodes_distinct later are.2)

pub children_distinct : (file : List ℕ) (cpu : ℕ) (reservations : List Reservation) (root : Root FileNode) →
    IsBlob file cpu reservations root → EachOwn HasDistinctNames root.children
children_distinct file cpu reservations root is =
    nodes_distinct root.children (blob_has_content file cpu reservations root is).is_tree.children

-- A node is found or not.
pub no_node : (found : Option NodeRef) → option_map node_of found ≡ None → is_some found ≡ true → ⊥
no_node None is some = true≢false (sym some)
no_node (Some found) is some = absurd cc

pub none_found : (found : Option NodeRef) → is_some found ≡ false → option_map node_of found ≡ None
none_found None is = refl
none_found (Some found) is = absurd (true≢false is)

-- ---- long names

-- They are those of all names of the nodes.
pub below_are : (nodes : Nodes PropertyMap) → long_names_below nodes ≡ long_bytes (names_of_nodes nodes)
below_are none = refl
below_are (node name own children later) =
    let all = long_bytes_of_node name own children later in
    let inner = below_are children in
    let outer = below_are later in
    omega (arith, all, inner, outer)

some_is_none : {X : Type 0} (x : X) → Some x ≡ None → ⊥
some_is_none x is = cc

-- Without images no node is changed as an image node.
untouched : (change : Nodes PropertyMap → Nodes PropertyMap) (nodes : Nodes FileNode) → node_named nodes images_name ≡ None →
    with_children_of images_name change (nodes_by_name nodes) ≡ nodes_by_name nodes
untouched change none is = refl
untouched change (node name own children later) is = by (bytes_eq name images_name) refl is (λ is. untouched change later is)
  where
    by : (b : Bool) → bytes_eq name images_name ≡ b → node_named (node name own children later) images_name ≡ None →
        (node_named later images_name ≡ None →
        with_children_of images_name change (nodes_by_name later) ≡ nodes_by_name later) →
        with_children_of images_name change (nodes_by_name (node name own children later)) ≡ nodes_by_name (node name own children later)
    by true alike is rest = absurd (some_is_none _ (rw alike at is))
    by false other is rest =
        rw other (ap (λ later. node name (properties_by_name own) (nodes_by_name children) later) (rest (rw other at is)))

-- Different long names of a blob without images are together no longer than those of its tree.
pub names_of_blob : (blob : Blob) (names : List (List ℕ)) → AreDistinct names → AreNamesIn names (root_of blob) →
    node_named (root_of blob).children images_name ≡ None →
    length (flat_map name_if_long names) ≤ long_names (Some (devicetree_of blob))
names_of_blob blob names distinct are no_images =
    let content : FitModel = record { blob = blob; images = [] } in
    let root = (devicetree_of blob).root in
    let tree = long_names_of_tree content names distinct are in
    let same = ap (λ nodes. long_bytes (names_of_nodes (node [] root.own nodes none)))
    (untouched without_payloads (root_of blob).children no_images) in
    let all = long_bytes_of_node [] root.own root.children none in
    let below = below_are root.children in
    omega (arith, tree, same, all, below)
