use Rattle.std.proofs.Common.{◌≡◌, ℕ, ◌+◌, List, [], ◌∷◌, ◌++◌, map, Option, Some, None, refl, rules}
use Rattle.std.proofs.Common.{sym, ap, subst, ◌∙◌}
use Rattle.std.specs.Prelude.{IfSome}
use Rattle.std.specs.Option.{option_map}
use Rattle.std.specs.List.{AllByRecursion, AllZip}
use Rattle.std.specs.FinMap.{from_entries}
use Rattle.bi_base.specs.Cells.{AreBytes}
use Rattle.bi_base.proofs.CellLaws.{AreBytes-slice}
use Rattle.bi_base.proofs.ListMembers.{each-front, each-back}
use Rattle.bi_blob.specs.Tree.{Nodes, none, node, Property, PropertyMap, FileProperty, FileNode, IsPropertyName, AreProperties, AreNodes}
use Rattle.bi_blob.specs.Tree.{IsTree, property_of, properties_of, with_each, depth_of, tree_without_places}
use Rattle.bi_blob.specs.Events.{NodeProperty, NodeEnd, events}
use Rattle.bi_blob.specs.Layout.{AreEventBytes, IsContent}
use Rattle.bi_blob.proofs.Blobs.BlockEnds.{depth-with_each}
use Rattle.bi_blob.proofs.Texts.TextContent.{blob_has_content}
use Rattle.bi_blob.specs.Lookups.{property_named}
use Rattle.bi_fit.specs.Names.{images_name}
use Rattle.bi_fit.specs.ImageTree.{ImageTree, each_own, image_nodes, children_of, without_payload, without_payloads, ArePropertiesByName}
use Rattle.bi_fit.specs.ImageTree.{HaveByteNames, IsApart, IsImageTree}
use Rattle.bi_fit.specs.Payloads.{PayloadSource, NoSource, Data, DataOffset, DataPosition, first_source, cell_number}
use Rattle.bi_fit.specs.Payloads.{external_base, IsSizedRegion, IsPayload, HasPayload}
use Rattle.bi_fit.specs.File.{IsFitFile}
use Rattle.bi_fit.proofs.Meanings.{same_in_some}
use Rattle.bi_fit.proofs.PayloadProperties.{get-without}
use Rattle.bi_fit.proofs.Trees.{children_of-with_each, children_of-with_children_of}
use Rattle.bi_fit.proofs.TreeShapes.{AreNodes-with_each, bytes-with_each, AreNodes-children_of, AreNodes-with_children_of}
use Rattle.bi_fit.proofs.TreeShapes.{bytes-with_children_of, bytes-without_payloads, depth-with_children_of, depth-without_payloads}
use Rattle.bi_fit.proofs.TreeContents.{AreBlobProperties, properties-from_entries, nodes-without_payloads}

-- What a file means as a flattened image tree is an image tree.

-- Properties with names and bytes are good.
good_properties : (properties : List Property) → AllByRecursion (λ property. IsPropertyName property.0) properties →
    AllByRecursion AreEventBytes (map NodeProperty properties) → AreBlobProperties properties
good_properties [] named bytes = tt
good_properties (property ∷ later) named bytes = search (rules, good_properties later named.1 bytes.1)

-- So are those of nodes whose events are bytes.
good_nodes : (nodes : Nodes (List Property)) → AreNodes AreProperties nodes → AllByRecursion AreEventBytes (events nodes) →
    AreNodes AreBlobProperties nodes × HaveByteNames nodes
good_nodes none are bytes = (tt, tt)
good_nodes (node name properties children later) are bytes =
    let own = each-front AreEventBytes (map NodeProperty properties) (events children ++ (NodeEnd ∷ events later)) bytes.1 in
    let below = each-back AreEventBytes (map NodeProperty properties) (events children ++ (NodeEnd ∷ events later)) bytes.1 in
    let inner = good_nodes children are.1 (each-front AreEventBytes (events children) (NodeEnd ∷ events later) below) in
    let outer = good_nodes later are.2 (each-back AreEventBytes (events children) (NodeEnd ∷ events later) below).1 in (
      (
        record { is_name = are.0.is_name; is_own = good_properties properties are.0.is_own.named own; is_new = are.0.is_new },
        inner.0,
        outer.0,
      ),
      (bytes.0, inner.1, outer.1),
    )

-- A property that is found among good ones is good.
found_good : (name : List ℕ) (properties : List FileProperty) (property : FileProperty) → AreBlobProperties (map property_of properties) →
    property_named properties name ≡ Some property → AreBytes property.value
found_good name [] property good found = absurd cc
found_good name (first ∷ later) property good found = search (rules, same_in_some, found_good name later property good.1)

-- A region of a file of bytes is bytes.
region_bytes : (file : List ℕ) (base : ℕ) (begin : FileProperty) (size : Option FileProperty) (payload : Option (List ℕ)) → AreBytes file →
    IsSizedRegion file base begin size payload → IfSome payload AreBytes
region_bytes file base begin None payload bytes is = absurd is
region_bytes file base begin (Some size) payload bytes is =
    subst (λ payload. IfSome payload AreBytes) (sym is.is_slice) (AreBytes-slice file (base + cell_number begin) (cell_number size) bytes)

-- The payload of a source is bytes, where the value of `data` is.
source_bytes : (file : List ℕ) (source : PayloadSource) (payload : Option (List ℕ)) → AreBytes file →
    ((property : FileProperty) → source ≡ Data property → AreBytes property.value) → IsPayload file source payload → IfSome payload AreBytes
source_bytes file NoSource payload bytes data_bytes is = subst (λ payload. IfSome payload AreBytes) (sym is) tt
source_bytes file (Data property) payload bytes data_bytes is =
    subst (λ payload. IfSome payload AreBytes) (sym is) (data_bytes property refl)
source_bytes file (DataOffset offset size) payload bytes data_bytes is =
    region_bytes file (external_base file) offset size payload bytes is
source_bytes file (DataPosition position size) payload bytes data_bytes is =
    region_bytes file 0 position size payload bytes is

-- Where the source is `data`, the property is there.
pub source_is_data : (position offset size found : Option FileProperty) (property : FileProperty) →
    first_source position offset size found ≡ Data property → found ≡ Some property
source_is_data (Some position) offset size found property is = absurd cc
source_is_data None (Some offset) size found property is = absurd cc
source_is_data None None size (Some there) property is = let same : there ≡ property = cc in ap Some same
source_is_data None None size None property is = absurd cc

-- An image node of a file and its payload are apart.
node_apart : (file : List ℕ) (own : FileNode) (payload : Option (List ℕ)) → AreBytes file → AreBlobProperties (properties_of own) →
    HasPayload file own payload → IsApart (without_payload (from_entries (properties_of own))) payload
node_apart file own payload bytes good has = search (rules, get-without, source_bytes, found_good, source_is_data)

-- So are image nodes and their payloads.
nodes_apart : (file : List ℕ) (nodes : Nodes FileNode) (payloads : List (Option (List ℕ))) → AreBytes file →
    AreNodes AreBlobProperties (with_each properties_of nodes) → AllZip (HasPayload file) (each_own nodes) payloads →
    AllZip IsApart (each_own (without_payloads (with_each from_entries (with_each properties_of nodes)))) payloads
nodes_apart file none [] bytes good have = tt
nodes_apart file none (payload ∷ payloads) bytes good have = absurd have
nodes_apart file (node name own children later) [] bytes good have = absurd have
nodes_apart file (node name own children later) (payload ∷ payloads) bytes good have =
    (node_apart file own payload bytes good.0.is_own have.0, nodes_apart file later payloads bytes good.2 have.1)

-- What a file means is an image tree.
pub is_image_tree : (file : List ℕ) (tree : ImageTree) → IsFitFile file tree → IsImageTree tree
is_image_tree file tree is = record {
  cpu_fits = content.cpu_fits;
  are_reservations = content.are_reservations;
  is_tree = subst (IsTree ArePropertiesByName) (sym is.is_root) (record {
    is_own = properties-from_entries (properties_of is.root.own)
        (good_properties (properties_of is.root.own) content.is_tree.is_own.named
        (each-front AreEventBytes (map NodeProperty (properties_of is.root.own)) (events plain ++ (NodeEnd ∷ [])) content.bytes.1));
    children = AreNodes-with_children_of images_name without_payloads ArePropertiesByName by_name
        (with_each from_entries (with_each properties_of is.images)) found_by_name
        (nodes-without_payloads (with_each from_entries (with_each properties_of is.images))
        (AreNodes-children_of ArePropertiesByName images_name by_name
        (with_each from_entries (with_each properties_of is.images)) found_by_name named))
        named;
  });
  name_bytes = subst (λ root. HaveByteNames root.children) (sym is.is_root)
      (bytes-with_children_of images_name without_payloads bytes-without_payloads by_name (bytes-with_each from_entries plain good.1));
  images = without_payloads (with_each from_entries (with_each properties_of is.images));
  has_images = ap image_nodes is.is_root
      ∙ children_of-with_children_of images_name without_payloads by_name
      (with_each from_entries (with_each properties_of is.images)) found_by_name;
  apart = nodes_apart file is.images tree.payloads is.blob.bytes
      (AreNodes-children_of AreBlobProperties images_name plain (with_each properties_of is.images) found_plain good.0) is.payloads;
}
  where
    plain : Nodes (List Property)
    plain = with_each properties_of is.root.children

    by_name : Nodes PropertyMap
    by_name = with_each from_entries (with_each properties_of is.root.children)

    content : IsContent tree.cpu tree.reservations (tree_without_places is.root)
    content = blob_has_content file tree.cpu tree.reservations is.root is.blob

    good : AreNodes AreBlobProperties plain × HaveByteNames plain
    good = good_nodes plain content.is_tree.children
        (each-front AreEventBytes (events plain) (NodeEnd ∷ [])
        (each-back AreEventBytes (map NodeProperty (properties_of is.root.own)) (events plain ++ (NodeEnd ∷ [])) content.bytes.1))

    named : AreNodes ArePropertiesByName by_name
    named = AreNodes-with_each AreBlobProperties ArePropertiesByName from_entries properties-from_entries plain good.0

    found_plain : children_of images_name plain ≡ Some (with_each properties_of is.images)
    found_plain = children_of-with_each properties_of images_name is.root.children ∙ ap (option_map (with_each properties_of)) is.has_images

    found_by_name : children_of images_name by_name ≡ Some (with_each from_entries (with_each properties_of is.images))
    found_by_name = children_of-with_each from_entries images_name plain ∙ ap (option_map (with_each from_entries)) found_plain

-- Its tree is as deep as that of the file.
pub depth-image_tree : (file : List ℕ) (tree : ImageTree) (is : IsFitFile file tree) → depth_of tree.root ≡ depth_of is.root
depth-image_tree file tree is = search (rules, depth-with_children_of, depth-without_payloads, depth-with_each)
