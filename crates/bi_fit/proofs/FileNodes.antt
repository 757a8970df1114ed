use Rattle.std.proofs.Common.{◌≡◌, ℕ, Bool, true, false, List, [], ◌∷◌, map, Option, Some, None, bytes_eq, nat_cmp, refl, sym, ap, ◌∙◌}
use Rattle.std.proofs.Common.{rules}
use Rattle.std.specs.Prelude.{option_map}
use Rattle.std.specs.Cmp.Lexicographic.{slice_cmp}
use Rattle.std.specs.FinMap.{get, from_entries, find, get-from_entries}
use Rattle.std.proofs.lemmas.Cmp.{nat_list_cmp_total, nat_list_eq_equiv}
use Rattle.std.proofs.lemmas.Slice.Eq.{bytes_eq-Decides}
use Rattle.std.proofs.lemmas.Map.Text.{is_eq-slice_cmp}
use Rattle.bi_blob.specs.Tree.{Nodes, none, node, Property, PropertyMap, FileNode, names}
use Rattle.bi_blob.specs.Lookups.{Sibling, siblings, node_named, value_named}
use Rattle.bi_fdt.specs.Content.{root_of}
use Rattle.bi_fit.specs.Names.{images_name, configurations_name}
use Rattle.bi_fit.specs.ImageTree.{children_of, with_children_of, nodes_or_none, image_nodes, without_payload, without_payloads}
use Rattle.bi_fit.specs.Content.{FitModel, tree_of}
use Rattle.bi_fit.specs.Judgement.{configuration_nodes}
use Rattle.bi_fit.specs.HashNodes.{file_images, file_configurations}
use Rattle.bi_fit.specs.NormalNodes.{properties_by_name, nodes_by_name}

-- The image nodes and the configuration nodes of an image tree that was read are those of its blob, with their properties by name.

-- One of some siblings, with the properties of each node by their names.
abbrev pub sibling_by_name : Sibling FileNode → Sibling PropertyMap
sibling_by_name sibling = record {
  name = sibling.name;
  own = properties_by_name sibling.own;
  children = nodes_by_name sibling.children;
  later = nodes_by_name sibling.later;
}

-- What an image node has in the tree.
abbrev pub bare_image : Sibling FileNode → Sibling PropertyMap
bare_image sibling = record {
  name = sibling.name;
  own = without_payload (properties_by_name sibling.own);
  children = nodes_by_name sibling.children;
  later = without_payloads (nodes_by_name sibling.later);
}

-- The value of a property in a map is that in the list from which the map was made.
pub get-by_name : (properties : List Property) (name : List ℕ) →
    get (from_entries {R = slice_cmp nat_cmp} properties) name ≡ value_named properties name
get-by_name properties name = get-from_entries nat_list_cmp_total properties name ∙ in_list properties
  where
    in_list : (properties : List Property) → find (slice_cmp nat_cmp) name properties ≡ value_named properties name
    in_list [] = refl
    in_list (property ∷ later) = where_first (bytes_eq property.0 name) refl (in_list later)
      where
        where_first : (b : Bool) → bytes_eq property.0 name ≡ b → find (slice_cmp nat_cmp) name later ≡ value_named later name →
            find (slice_cmp nat_cmp) name (property ∷ later) ≡ value_named (property ∷ later) name
        where_first true is rest = rw (is_eq-slice_cmp name property.0, nat_list_eq_equiv.symm name property.0, is) refl
        where_first false is rest = rw (is_eq-slice_cmp name property.0, nat_list_eq_equiv.symm name property.0, is) rest

-- The siblings of nodes with their properties by name.
pub siblings-by_name : (nodes : Nodes FileNode) → siblings (nodes_by_name nodes) ≡ map sibling_by_name (siblings nodes)
siblings-by_name none = refl
siblings-by_name (node name own children later) =
    ap (λ l. sibling_by_name (record { name = name; own = own; children = children; later = later }) ∷ l) (siblings-by_name later)

-- Those of image nodes.
pub siblings-bare : (nodes : Nodes FileNode) → siblings (without_payloads (nodes_by_name nodes)) ≡ map bare_image (siblings nodes)
siblings-bare none = refl
siblings-bare (node name own children later) =
    ap (λ l. bare_image (record { name = name; own = own; children = children; later = later }) ∷ l) (siblings-bare later)

-- Their names.
pub names-by_name : (nodes : Nodes FileNode) → names (nodes_by_name nodes) ≡ map (λ sibling. sibling.name) (siblings nodes)
names-by_name none = refl
names-by_name (node name own children later) = ap (λ l. name ∷ l) (names-by_name later)

-- A node is found by its name as before.
pub named-by_name : (nodes : Nodes FileNode) (wanted : List ℕ) →
    node_named (nodes_by_name nodes) wanted ≡ option_map sibling_by_name (node_named nodes wanted)
named-by_name none wanted = refl
named-by_name (node name own children later) wanted = search (rules, named-by_name later wanted)

-- What a node has itself, and its children.
abbrev pub own_and_children : {Own : Type 0} → Sibling Own → Own × Nodes Own
own_and_children sibling = (sibling.own, sibling.children)

-- Other children of a node of another name make no difference to a node.
named-other : {Own : Type 0} (changed wanted : List ℕ) (change : Nodes Own → Nodes Own) →
    ((name : List ℕ) → bytes_eq name wanted ≡ true → bytes_eq name changed ≡ false) → (nodes : Nodes Own) →
    option_map own_and_children (node_named (with_children_of changed change nodes) wanted)
    ≡ option_map own_and_children (node_named nodes wanted)
named-other changed wanted change differ none = refl
named-other {Own = Own} changed wanted change differ (node name own children later) =
    where_changed (bytes_eq name changed) refl (named-other changed wanted change differ later)
  where
    where_wanted : (b : Bool) → bytes_eq name wanted ≡ b →
        option_map own_and_children (node_named (with_children_of changed change later) wanted) ≡
        option_map own_and_children (node_named later wanted) →
        option_map own_and_children (node_named (node name own children (with_children_of changed change later)) wanted) ≡
        option_map own_and_children (node_named (node name own children later) wanted)
    where_wanted true is rest = rw is refl
    where_wanted false is rest = rw is rest

    where_other : (b : Bool) → bytes_eq name wanted ≡ b → bytes_eq name changed ≡ true →
        option_map own_and_children (node_named (node name own (change children) later) wanted) ≡
        option_map own_and_children (node_named (node name own children later) wanted)
    where_other true is is_changed = absurd
        (let e : bytes_eq name changed ≡ false = differ name is in let f : true ≡ false = sym is_changed ∙ e in cc)
    where_other false is is_changed = rw is refl

    where_changed : (b : Bool) → bytes_eq name changed ≡ b →
        option_map own_and_children (node_named (with_children_of changed change later) wanted) ≡
        option_map own_and_children (node_named later wanted) →
        option_map own_and_children (node_named (with_children_of changed change (node name own children later)) wanted) ≡
        option_map own_and_children (node_named (node name own children later) wanted)
    where_changed true is rest = rw is (where_other (bytes_eq name wanted) refl is)
    where_changed false is rest = rw is (where_wanted (bytes_eq name wanted) refl rest)

-- The image nodes of the tree.
pub image_nodes_named : (nodes : Nodes FileNode) →
    nodes_or_none (children_of images_name (with_children_of images_name without_payloads (nodes_by_name nodes)))
    ≡ without_payloads (nodes_by_name (nodes_or_none (children_of images_name nodes)))
image_nodes_named none = refl
image_nodes_named (node name own children later) = search (rules, image_nodes_named later)

pub image_siblings : (content : FitModel) →
    siblings (nodes_or_none (image_nodes (tree_of content).root)) ≡ map bare_image (siblings (file_images content.blob))
image_siblings content =
    ap siblings (image_nodes_named (root_of content.blob).children) ∙ siblings-bare (file_images content.blob)

-- The node of the configurations in the tree.
pub configurations_parts : (content : FitModel) →
    option_map own_and_children (node_named (tree_of content).root.children configurations_name)
    ≡ option_map (λ sibling. own_and_children (sibling_by_name sibling)) (node_named (root_of content.blob).children configurations_name)
configurations_parts content =
    named-other images_name configurations_name without_payloads differ (nodes_by_name (root_of content.blob).children)
    ∙ ap (option_map own_and_children) (named-by_name (root_of content.blob).children configurations_name)
    ∙ twice (node_named (root_of content.blob).children configurations_name)
  where
    differ : (name : List ℕ) → bytes_eq name configurations_name ≡ true → bytes_eq name images_name ≡ false
    differ name is = ap (λ l. bytes_eq l images_name) ((bytes_eq-Decides name configurations_name).0 is)

    twice : (found : Option (Sibling FileNode)) →
        option_map own_and_children (option_map sibling_by_name found) ≡
        option_map (λ sibling. own_and_children (sibling_by_name sibling)) found
    twice None = refl
    twice (Some sibling) = refl

-- The configuration nodes of the tree.
pub configuration_nodes_are : (content : FitModel) →
    configuration_nodes (tree_of content) ≡ nodes_by_name (file_configurations content.blob)
configuration_nodes_are content = search (rules, configurations_parts)
