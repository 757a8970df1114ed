use Rattle.std.proofs.Common.{◌≡◌, ◌&&◌, ℕ, Bool, true, false, cond, List, [], ◌∷◌, Option, Some, None, bytes_eq, not, refl, sym, ap}
use Rattle.std.proofs.Common.{◌∙◌, rules}
use Rattle.std.specs.Option.{option_map, option_and_then}
use Rattle.std.specs.FinMap.{get}
use Rattle.std.proofs.lemmas.Slice.Eq.{bytes_eq-Decides}
use Rattle.bi_blob.specs.Tree.{Nodes, none, node, Root, PropertyMap, FileNode, properties_of, tree_without_order, tree_without_places}
use Rattle.bi_blob.specs.Lookups.{Sibling, node_named, root_node, value_named}
use Rattle.bi_fdt.specs.Content.{root_of}
use Rattle.bi_fit.specs.Names.{images_name, is_payload_name}
use Rattle.bi_fit.specs.ImageTree.{tree_without_payloads, with_children_of, without_payloads}
use Rattle.bi_fit.specs.Content.{FitModel, tree_of}
use Rattle.bi_fit.specs.NormalNodes.{nodes_by_name, properties_by_name}
use Rattle.bi_fit.proofs.FileNodes.{bare_image, get-by_name, named-by_name, own_and_children, sibling_by_name}
use Rattle.bi_fit.proofs.PayloadProperties.{get-without}
use Rattle.bi_values.specs.FoundValues.{node_by_names, value_at}
use Rattle.bi_values.specs.ImagePaths.{is_path_of_image}

-- The value of a property of an image tree that was read is that of its blob, except for the properties of image nodes that hold a payload
-- or name its region.

-- The value of a property of the node that names lead to, in a file and in a tree.
abbrev pub file_value : Sibling FileNode → List (List ℕ) → (name : List ℕ) → Option (List ℕ)
file_value from names name = option_and_then (λ found. value_named (properties_of found.own) name) (node_by_names from names)

abbrev pub tree_value : Sibling PropertyMap → List (List ℕ) → (name : List ℕ) → Option (List ℕ)
tree_value from names name = option_and_then (λ found. get found.own name) (node_by_names from names)

-- ---- nodes without image nodes below them

-- Names lead to the same node if each node has its properties by name.
led_by_name : (from : Sibling FileNode) (names : List (List ℕ)) →
    node_by_names (sibling_by_name from) names ≡ option_map sibling_by_name (node_by_names from names)
led_by_name from [] = refl
led_by_name from (name ∷ later) =
    ap (option_and_then (λ child. node_by_names child later)) (named-by_name from.children name)
    ∙ by (node_named from.children name) (λ child. led_by_name child later)
  where
    by : (found : Option (Sibling FileNode)) →
        ((child : Sibling FileNode) →
        node_by_names (sibling_by_name child) later ≡ option_map sibling_by_name (node_by_names child later)) →
        option_and_then (λ child. node_by_names child later) (option_map sibling_by_name found)
        ≡ option_map sibling_by_name (option_and_then (λ child. node_by_names child later) found)
    by None leads = refl
    by (Some child) leads = leads child

-- So they lead to the same value.
value_by_name : (from : Sibling FileNode) (names : List (List ℕ)) (name : List ℕ) →
    tree_value (sibling_by_name from) names name ≡ file_value from names name
value_by_name from names name =
    ap (option_and_then (λ found. get found.own name)) (led_by_name from names) ∙ by (node_by_names from names)
  where
    by : (found : Option (Sibling FileNode)) →
        option_and_then (λ (one : Sibling PropertyMap). get one.own name) (option_map sibling_by_name found)
        ≡ option_and_then (λ (one : Sibling FileNode). value_named (properties_of one.own) name) found
    by None = refl
    by (Some found) = get-by_name (properties_of found.own) name

-- ---- image nodes

-- An image node is found by its name as before.
named-bare : (nodes : Nodes FileNode) (wanted : List ℕ) →
    node_named (without_payloads (nodes_by_name nodes)) wanted ≡ option_map bare_image (node_named nodes wanted)
named-bare none wanted = refl
named-bare (node name own children later) wanted = search (rules, named-bare later wanted)

-- A property of an image node, if it is not one that holds the payload or names its region.
bare_value : (image : Sibling FileNode) (name : List ℕ) →
    get (bare_image image).own name ≡ cond (is_payload_name name) None (value_named (properties_of image.own) name)
bare_value image name = get-without (properties_by_name image.own) name ∙ by (is_payload_name name)
  where
    by : (b : Bool) → cond (not b) (get (properties_by_name image.own) name) None ≡ cond b None (value_named (properties_of image.own) name)
    by true = refl
    by false = get-by_name (properties_of image.own) name

-- The node that has the image nodes as children.
abbrev images_node : Sibling FileNode → Sibling PropertyMap
images_node sibling = record {
  name = sibling.name;
  own = properties_by_name sibling.own;
  children = without_payloads (nodes_by_name sibling.children);
  later = nodes_by_name sibling.later;
}

-- A value below it. The names after `images` lead to an image node if there is one.
below_images : (from : Sibling FileNode) (later : List (List ℕ)) (name : List ℕ) →
    tree_value (images_node from) later name
    ≡ cond (is_path_of_image (images_name ∷ later) && is_payload_name name) None (file_value from later name)
below_images from [] name = get-by_name (properties_of from.own) name
below_images from (image ∷ []) name =
    ap (λ found. option_and_then (λ (one : Sibling PropertyMap). get one.own name)
    (option_and_then (λ (child : Sibling PropertyMap). Some child) found)) (named-bare from.children image)
    ∙ by (node_named from.children image) (is_payload_name name) refl
  where
    by : (found : Option (Sibling FileNode)) (b : Bool) → is_payload_name name ≡ b →
        option_and_then (λ (one : Sibling PropertyMap). get one.own name)
        (option_and_then (λ (child : Sibling PropertyMap). Some child) (option_map bare_image found))
        ≡ cond b None (option_and_then (λ (one : Sibling FileNode). value_named (properties_of one.own) name)
        (option_and_then (λ (child : Sibling FileNode). Some child) found))
    by None true is = refl
    by None false is = refl
    by (Some child) b is = rw (sym is) (bare_value child name)
below_images from (image ∷ next ∷ later) name =
    ap (λ found. option_and_then (λ (one : Sibling PropertyMap). get one.own name)
    (option_and_then (λ (child : Sibling PropertyMap). node_by_names child (next ∷ later)) found)) (named-bare from.children image)
    ∙ by (node_named from.children image)
  where
    by : (found : Option (Sibling FileNode)) →
        option_and_then (λ (one : Sibling PropertyMap). get one.own name)
        (option_and_then (λ (child : Sibling PropertyMap). node_by_names child (next ∷ later)) (option_map bare_image found))
        ≡ option_and_then (λ (one : Sibling FileNode). value_named (properties_of one.own) name)
        (option_and_then (λ (child : Sibling FileNode). node_by_names child (next ∷ later)) found)
    by None = refl
    by (Some child) = value_by_name child (next ∷ later) name

-- ---- the root

-- A child of the root of this name, with other children if it has the image nodes.
abbrev root_child : (name : List ℕ) → Sibling FileNode → Sibling PropertyMap
root_child name child = cond (bytes_eq name images_name) (images_node child) (sibling_by_name child)

-- A node is found by its name as before where no node has other children.
plain_named : (nodes : Nodes FileNode) (wanted : List ℕ) →
    option_map own_and_children (node_named (nodes_by_name nodes) wanted)
    ≡ option_map (λ found. own_and_children (sibling_by_name found)) (node_named nodes wanted)
plain_named nodes wanted = ap (option_map own_and_children) (named-by_name nodes wanted) ∙ by (node_named nodes wanted)
  where
    by : (found : Option (Sibling FileNode)) → option_map own_and_children (option_map sibling_by_name found)
        ≡ option_map (λ found. own_and_children (sibling_by_name found)) found
    by None = refl
    by (Some found) = refl

-- So is a child of the root.
named-root : (nodes : Nodes FileNode) (wanted : List ℕ) →
    option_map own_and_children (node_named (with_children_of images_name without_payloads (nodes_by_name nodes)) wanted)
    ≡ option_map (λ found. own_and_children (root_child wanted found)) (node_named nodes wanted)
named-root none wanted = refl
named-root (node name own children later) wanted = by (bytes_eq name images_name) refl (bytes_eq name wanted) refl (named-root later wanted)
  where
    as_wanted : bytes_eq name wanted ≡ true → bytes_eq wanted images_name ≡ bytes_eq name images_name
    as_wanted is_wanted = ap (λ one. bytes_eq one images_name) (sym ((bytes_eq-Decides name wanted).0 is_wanted))

    other_wanted : bytes_eq name images_name ≡ true → bytes_eq name wanted ≡ false → (b : Bool) →
        bytes_eq wanted images_name ≡ b → b ≡ false
    other_wanted is is_other false wanted_is = refl
    other_wanted is is_other true wanted_is =
        let same : name ≡ wanted = (bytes_eq-Decides name images_name).0 is ∙ sym ((bytes_eq-Decides wanted images_name).0 wanted_is) in
        let e : true ≡ false = sym ((bytes_eq-Decides name wanted).1 same) ∙ is_other in absurd cc

    by : (p : Bool) → bytes_eq name images_name ≡ p → (q : Bool) → bytes_eq name wanted ≡ q →
        option_map own_and_children (node_named (with_children_of images_name without_payloads (nodes_by_name later)) wanted)
        ≡ option_map (λ found. own_and_children (root_child wanted found)) (node_named later wanted) →
        option_map own_and_children
        (node_named (with_children_of images_name without_payloads (nodes_by_name (node name own children later))) wanted)
        ≡ option_map (λ found. own_and_children (root_child wanted found)) (node_named (node name own children later) wanted)
    by true is true is_wanted rest = rw (as_wanted is_wanted, is, is_wanted) refl
    by true is false is_wanted rest =
        let wanted_is : bytes_eq wanted images_name ≡ false = other_wanted is is_wanted (bytes_eq wanted images_name) refl in
        rw (wanted_is, is, is_wanted) (plain_named later wanted)
    by false is true is_wanted rest = rw (as_wanted is_wanted, is, is_wanted) refl
    by false is false is_wanted rest = rw (is, is_wanted) rest

-- The value below a node depends on its properties and its children.
abbrev value_in : PropertyMap × Nodes PropertyMap → List (List ℕ) → (name : List ℕ) → Option (List ℕ)
value_in parts [] name = get parts.0 name
value_in parts (next ∷ later) name =
    option_and_then (λ (found : Sibling PropertyMap). get found.own name)
    (option_and_then (λ child. node_by_names child later) (node_named parts.1 next))

value_of_parts : (from : Sibling PropertyMap) (names : List (List ℕ)) (name : List ℕ) →
    tree_value from names name ≡ value_in (own_and_children from) names name
value_of_parts from [] name = refl
value_of_parts from (next ∷ later) name = refl

value_of_found : (found : Option (Sibling PropertyMap)) (names : List (List ℕ)) (name : List ℕ) →
    option_and_then (λ (one : Sibling PropertyMap). get one.own name) (option_and_then (λ child. node_by_names child names) found)
    ≡ option_and_then (λ parts. value_in parts names name) (option_map own_and_children found)
value_of_found None names name = refl
value_of_found (Some from) names name = value_of_parts from names name

-- Names that do not begin with `images` lead to no image node.
no_image_path : (first : List ℕ) (later : List (List ℕ)) → bytes_eq first images_name ≡ false → is_path_of_image (first ∷ later) ≡ false
no_image_path first [] other = refl
no_image_path first (image ∷ []) other = other
no_image_path first (image ∷ next ∷ later) other = refl

no_value : (b : Bool) (found : Option (List ℕ)) → found ≡ None → found ≡ cond b None found
no_value true found is = is
no_value false found is = refl

-- The value of a property of the tree.
pub tree_value_found : (root : Root FileNode) (path : List (List ℕ)) (name : List ℕ) →
    tree_value (root_node (tree_without_payloads (tree_without_order (tree_without_places root)))) path name
    ≡ cond (is_path_of_image path && is_payload_name name) None (file_value (root_node root) path name)
tree_value_found root [] name = get-by_name (properties_of root.own) name
tree_value_found root (first ∷ later) name =
    value_of_found (node_named (with_children_of images_name without_payloads (nodes_by_name root.children)) first) later name
    ∙ ap (option_and_then (λ parts. value_in parts later name)) (named-root root.children first)
    ∙ by (node_named root.children first) (bytes_eq first images_name) refl
  where
    by : (found : Option (Sibling FileNode)) (b : Bool) → bytes_eq first images_name ≡ b →
        option_and_then (λ parts. value_in parts later name) (option_map (λ one. own_and_children (root_child first one)) found)
        ≡ cond (is_path_of_image (first ∷ later) && is_payload_name name) None
        (option_and_then (λ (one : Sibling FileNode). value_named (properties_of one.own) name)
        (option_and_then (λ child. node_by_names child later) found))
    by None b is = no_value (is_path_of_image (first ∷ later) && is_payload_name name) None refl
    by (Some child) true is =
        let names : first ≡ images_name = (bytes_eq-Decides first images_name).0 is in
        rw is (sym (value_of_parts (images_node child) later name) ∙ below_images child later name
        ∙ ap (λ one. cond (is_path_of_image (one ∷ later) && is_payload_name name) None (file_value child later name)) (sym names))
    by (Some child) false is =
        rw (no_image_path first later is, is) (sym (value_of_parts (sibling_by_name child) later name) ∙ value_by_name child later name)

-- ---- as it is found

-- An image node has no property that holds its payload or names its region.
pub no_payload_value : (content : FitModel) (path : List (List ℕ)) (name : List ℕ) →
    (is_path_of_image path && is_payload_name name) ≡ true → None ≡ value_at (tree_of content) path name
no_payload_value content path name is =
    sym (tree_value_found (root_of content.blob) path name
    ∙ ap (λ b. cond b None (file_value (root_node (root_of content.blob)) path name)) is)

-- Any other property is that of the node in the blob,
other_value : (content : FitModel) (path : List (List ℕ)) (name : List ℕ) → (is_path_of_image path && is_payload_name name) ≡ false →
    (root : Sibling FileNode) → root ≡ root_node (root_of content.blob) → file_value root path name ≡ value_at (tree_of content) path name
other_value content path name other root is =
    ap (λ from. file_value from path name) is
    ∙ sym (tree_value_found (root_of content.blob) path name
    ∙ ap (λ b. cond b None (file_value (root_node (root_of content.blob)) path name)) other)

-- if there is a node,
pub node_value : (content : FitModel) (path : List (List ℕ)) (name : List ℕ) → (is_path_of_image path && is_payload_name name) ≡ false →
    (root found : Sibling FileNode) → root ≡ root_node (root_of content.blob) → node_by_names root path ≡ Some found →
    (value : Option (List ℕ)) → value ≡ value_named (properties_of found.own) name → value ≡ value_at (tree_of content) path name
node_value content path name other root found is leads value has =
    has
    ∙ ap (option_and_then (λ (one : Sibling FileNode). value_named (properties_of one.own) name)) (sym leads)
    ∙ other_value content path name other root is

-- and if there is none.
pub no_node_value : (content : FitModel) (path : List (List ℕ)) (name : List ℕ) → (is_path_of_image path && is_payload_name name) ≡ false →
    (root : Sibling FileNode) → root ≡ root_node (root_of content.blob) → node_by_names root path ≡ None →
    None ≡ value_at (tree_of content) path name
no_node_value content path name other root is leads =
    ap (option_and_then (λ (one : Sibling FileNode). value_named (properties_of one.own) name)) (sym leads)
    ∙ other_value content path name other root is
