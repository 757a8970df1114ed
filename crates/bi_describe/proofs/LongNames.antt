use Rattle.std.proofs.Common.{◌≡◌, ◌+◌, ◌≤◌, ℕ, inr, Bool, true, false, List, [], ◌∷◌, ◌++◌, Option, Some, codes, length, map, bytes_eq}
use Rattle.std.proofs.Common.{rules}
use Rattle.std.proofs.Common.{flat_map, refl, sym, ap, subst, ◌∙◌, arith, length-append}
use Rattle.std.specs.FinMap.{entries}
use Rattle.std.specs.List.{AllZip}
use Rattle.std.proofs.lemmas.Grind.{flat_map-append}
use Rattle.std.proofs.lemmas.Slice.Eq.{bytes_eq-Decides}
use Rattle.bi_base.specs.declared.fault.Error.{Error}
use Rattle.bi_base.specs.declared.fault.Error.TheVariants as error
use Rattle.bi_base.specs.Errors.{IsFaultOrNoMemory}
use Rattle.bi_base.specs.Limits.{Limits}
use Rattle.bi_base.specs.Reading.{too_large}
use Rattle.bi_fdt.specs.Content.{root_of}
use Rattle.bi_blob.specs.Tree.{Nodes, none, node, names, as_nodes, with_each, AreNodes, IsNew, Property, PropertyMap}
use Rattle.bi_fit.specs.Content.{FitModel, IsHeld, tree_of}
use Rattle.bi_fit.specs.ImageTree.{ImageTree, IsImageTree, IsApart, ArePropertiesByName, children_of, each_own}
use Rattle.bi_fit.specs.LongNames.{HasLongerNames, name_if_long}
use Rattle.bi_fit.specs.Names.{images_name}
use Rattle.bi_fit.proofs.FileTrees.{is_image_tree}
use Rattle.bi_fit.proofs.LongNames.{length-name_if_long, long_names_of_tree, names_of_nodes, names_of_nodes-first}
use Rattle.bi_fit.proofs.Meanings.{same_in_some}
use Rattle.bi_fit.proofs.NormalTrees.{held_means}
use Rattle.bi_norm.specs.Meaning.{OfFit}
use Rattle.bi_common.specs.declared.format.Format.{Format}
use Rattle.bi_common.specs.declared.format.Format.TheVariants as forms
use Rattle.bi_common.specs.Json.{Json, JsonMembers, JsonValues, Member, json_line, json_members, json_text, json_values, members_text}
use Rattle.bi_common.specs.Json.{string_byte}
use Rattle.bi_common.specs.Json.{values_text}
use Rattle.bi_common.specs.Json.{json_null, json_bool, json_number, json_string, array_of, object_of, no_value, next_value, no_member}
use Rattle.bi_common.specs.Json.{next_member}
use Rattle.bi_common.specs.Lines.{Line, line_text, text_of_lines}
use Rattle.bi_common.specs.Shown.{Words, path, line, shown_byte, shown_text}
use Rattle.bi_common.specs.ValueTexts.{value_words}
use Rattle.bi_describe.specs.Describing.{IsImageError, description_text}
use Rattle.bi_describe.specs.DescriptionJson.{description_json, fit_object_with, node_members, node_members_with, node_objects}
use Rattle.bi_describe.specs.DescriptionJson.{node_objects_with, property_object}
use Rattle.bi_describe.specs.Descriptions.{DescribedNode, NodePayload, NotAnImage, OfImage, plain_node, described_images}
use Rattle.bi_describe.specs.Descriptions.{described_children}
use Rattle.bi_describe.specs.Descriptions.{described_nodes, description, node_lines, own_lines, property_line, tree_lines}

-- The description of an image tree is at least as long as the long names of its properties together.

-- A byte is shown as one byte or more,
byte_shown : (byte : ℕ) → 1 ≤ length (shown_byte byte)
byte_shown byte = search rules

bytes_shown : (bytes : List ℕ) → length bytes ≤ length (flat_map shown_byte bytes)
bytes_shown [] = omega arith
bytes_shown (byte ∷ later) = search (rules, length-append, byte_shown, bytes_shown later)

-- and a name as no fewer bytes than it has.
pub shown_as_long : (name : List ℕ) → length name ≤ length (shown_text name)
shown_as_long name = search (rules, bytes_eq-Decides, bytes_shown)

-- A line is at least as long as its third word.
pub third_word : (first second third : List ℕ) (later : Words) → length third ≤ length (line (first ∷ second ∷ third ∷ later))
third_word first second third [] = search (rules, length-append)
third_word first second third (word ∷ later) = search (rules, length-append)

-- How many bytes these names have together, as far as they are long.
abbrev pub long_bytes : List (List ℕ) → ℕ
long_bytes names = length (flat_map name_if_long names)

-- Those of several lists of names.
pub long_bytes-append : (front back : List (List ℕ)) → long_bytes (front ++ back) ≡ long_bytes front + long_bytes back
long_bytes-append front back =
    ap length (flat_map-append name_if_long front back) ∙ length-append (flat_map name_if_long front) (flat_map name_if_long back)

pub long_bytes_of_node : (name : List ℕ) (own : PropertyMap) (children later : Nodes PropertyMap)
    → long_bytes (names_of_nodes (node name own children later))
    ≡ long_bytes (map (λ property. property.0) (entries own)) + (long_bytes (names_of_nodes children) + long_bytes (names_of_nodes later))
long_bytes_of_node name own children later = search (rules, names_of_nodes-first, long_bytes-append)

-- The lines of properties are at least as long as their long names.
properties_long : (names : List (List ℕ)) (properties : List Property) →
    long_bytes (map (λ property. property.0) properties) ≤ length (text_of_lines (map (property_line names) properties))
properties_long names [] = omega arith
properties_long names (property ∷ later) =
    let written = line_text (property_line names property) in
    let of_names = length-append (name_if_long property.0) (flat_map name_if_long (map (λ property. property.0) later)) in
    let lines = length-append written (text_of_lines (map (property_line names) later)) in
    let short = length-name_if_long property.0 in
    let shown = shown_as_long property.0 in
    let one = third_word (codes "property") (path names) (shown_text property.0) (value_words property.1 ++ []) in
    let rest = properties_long names later in
    omega (arith, of_names, lines, short, shown, one, rest)

-- So are the lines of a node: of what it has itself,
own_long : (names : List (List ℕ)) (own : DescribedNode) →
    long_bytes (map (λ property. property.0) (entries own.properties)) ≤ length (text_of_lines (own_lines names own))
own_long names own = search (rules, length-append, flat_map-append, properties_long)

-- and with those of all nodes below it.
abbrev pub properties_by_node : Nodes DescribedNode → Nodes PropertyMap
properties_by_node nodes = with_each (λ (own : DescribedNode). own.properties) nodes

nodes_long : (above : List (List ℕ)) (nodes : Nodes DescribedNode) →
    long_bytes (names_of_nodes (properties_by_node nodes)) ≤ length (text_of_lines (node_lines above nodes))
nodes_long above none = omega arith
nodes_long above (node name own children later) =
    let inner : List (List ℕ) = above ++ name ∷ [] in
    let own_ones : List Line = own_lines inner own in
    let below : List Line = node_lines inner children in
    let after : List Line = node_lines above later in
    let lines = ap length (flat_map-append line_text own_ones (below ++ after))
    ∙ length-append (text_of_lines own_ones) (text_of_lines (below ++ after)) in
    let more = ap length (flat_map-append line_text below after) ∙ length-append (text_of_lines below) (text_of_lines after) in
    let names = long_bytes_of_node name own.properties (properties_by_node children) (properties_by_node later) in
    let one = own_long inner own in
    let two = nodes_long inner children in
    let three = nodes_long above later in
    omega (arith, lines, more, names, one, two, three)

-- Nodes whose children and later nodes are the same are the same.
same_node : {Own : Type 0} (name : List ℕ) (own : Own) (children others later more : Nodes Own) → children ≡ others → later ≡ more →
    node name own children later ≡ node name own others more
same_node name own children others later more below after =
    ap (λ nodes. node name own nodes later) below ∙ ap (λ nodes. node name own others nodes) after

-- The described nodes have the properties of the nodes of the tree: those that are not image nodes,
pub plain_properties : (nodes : Nodes PropertyMap) → properties_by_node (with_each plain_node nodes) ≡ nodes
plain_properties none = refl
plain_properties (node name own children later) =
    same_node name own _ _ _ _ (plain_properties children) (plain_properties later)

-- the image nodes, if there is a payload or none for each of them,
image_properties_shown : (nodes : Nodes PropertyMap) (payloads : List (Option (List ℕ))) → AllZip IsApart (each_own nodes) payloads →
    properties_by_node (described_images nodes payloads) ≡ nodes
image_properties_shown none [] apart = refl
image_properties_shown none (payload ∷ payloads) apart = absurd apart
image_properties_shown (node name own children later) [] apart = absurd apart
image_properties_shown (node name own children later) (payload ∷ payloads) apart =
    same_node name own _ _ _ _ (plain_properties children) (image_properties_shown later payloads apart.1)

-- children of the root without the node of the image nodes,
other_properties : (nodes : Nodes PropertyMap) (payloads : List (Option (List ℕ))) → IsNew images_name (names nodes) →
    properties_by_node (described_nodes nodes payloads) ≡ nodes
other_properties none payloads new = refl
other_properties (node name own children later) payloads new =
    same_node name own _ _ _ _
    (where_images (bytes_eq name images_name) refl) (other_properties later payloads new.1)
  where
    where_images : (b : Bool) → bytes_eq name images_name ≡ b → properties_by_node (described_children name children payloads) ≡ children
    where_images true is = absurd (new.0 ((bytes_eq-Decides name images_name).0 is))
    where_images false is = rw is (plain_properties children)

-- and all children of the root.
pub properties_shown : (IsOwn : PropertyMap → Type 0) (nodes images : Nodes PropertyMap) (payloads : List (Option (List ℕ))) →
    AreNodes IsOwn nodes → children_of images_name nodes ≡ Some images → AllZip IsApart (each_own images) payloads →
    properties_by_node (described_nodes nodes payloads) ≡ nodes
properties_shown IsOwn none images payloads are has apart = refl
properties_shown IsOwn (node name own children later) images payloads are has apart =
    where_images (bytes_eq name images_name) refl has (λ has. properties_shown IsOwn later images payloads are.2 has apart)
  where
    where_images : (b : Bool) → bytes_eq name images_name ≡ b → children_of images_name (node name own children later) ≡ Some images →
        (children_of images_name later ≡ Some images → properties_by_node (described_nodes later payloads) ≡ later) →
        properties_by_node (described_nodes (node name own children later) payloads) ≡ node name own children later
    where_images true is has rest =
        let found : children ≡ images = same_in_some children images (rw is at has) in
        let new : IsNew images_name (names later) = subst (λ name. IsNew name (names later))
        ((bytes_eq-Decides name images_name).0 is) are.0.is_new in
        let below : AllZip IsApart (each_own children) payloads = subst
        (λ nodes. AllZip IsApart (each_own nodes) payloads) (sym found) apart in
        rw is (same_node name own _ _ _ _ (image_properties_shown children payloads below) (other_properties later payloads new))
    where_images false is has rest =
        rw is (same_node name own _ _ _ _ (plain_properties children) (rest (rw is at has)))

all_shown : (tree : ImageTree) → IsImageTree tree →
    properties_by_node (described_nodes tree.root.children tree.payloads) ≡ tree.root.children
all_shown tree is = properties_shown ArePropertiesByName tree.root.children is.images tree.payloads is.is_tree.children is.has_images
    is.apart

-- The lines of a tree are at least as long as the long names of its properties,
abbrev pub long_bytes_of : ImageTree → ℕ
long_bytes_of tree = long_bytes (names_of_nodes (as_nodes tree.root))

tree_long : (tree : ImageTree) → IsImageTree tree → long_bytes_of tree ≤ length (text_of_lines (tree_lines tree))
tree_long tree is =
    let nodes : Nodes DescribedNode = described_nodes tree.root.children tree.payloads in
    let own : List Line = own_lines [] (plain_node tree.root.own) in
    let below : List Line = node_lines [] nodes in
    let same = ap (λ nodes. long_bytes (names_of_nodes nodes)) (all_shown tree is) in
    let lines = ap length (flat_map-append line_text own below) ∙ length-append (text_of_lines own) (text_of_lines below) in
    let names = long_bytes_of_node [] tree.root.own tree.root.children none in
    let one = own_long [] (plain_node tree.root.own) in
    let two = nodes_long [] nodes in
    omega (arith, same, lines, names, one, two)

-- and so is the description,
pub lines_long : (tree : ImageTree) → IsImageTree tree → long_bytes_of tree ≤ length (description (OfFit tree))
lines_long tree is = search (rules, length-append, flat_map-append, tree_long)

-- ---- also in JSON

-- How long the strings of a value are together, without the names of members.
abbrev mutual
  pub strings_length : Json → ℕ
  strings_length (json_string bytes) = length bytes
  strings_length (array_of values) = values_length values
  strings_length (object_of members) = members_length members
  strings_length value = 0

  pub values_length : JsonValues → ℕ
  values_length no_value = 0
  values_length (next_value value later) = strings_length value + values_length later

  pub members_length : JsonMembers → ℕ
  members_length no_member = 0
  members_length (next_member name value later) = strings_length value + members_length later

string_byte_long : (byte : ℕ) → 1 ≤ length (string_byte byte)
string_byte_long byte = search rules

string_long : (bytes : List ℕ) → length bytes ≤ length (flat_map string_byte bytes)
string_long [] = omega arith
string_long (byte ∷ later) = search (rules, length-append, string_byte_long, string_long later)

mutual
  pub value_long : (value : Json) → strings_length value ≤ length (json_text value)
  value_long json_null = omega arith
  value_long (json_bool value) = omega arith
  value_long (json_number number) = omega arith
  value_long (json_string bytes) = search (rules, length-append, string_long)
  value_long (array_of values) = search (rules, length-append, values_long false values)
  value_long (object_of members) = search (rules, length-append, members_long false members)

  values_long : (is_later : Bool) (values : JsonValues) → values_length values ≤ length (values_text is_later values)
  values_long is_later no_value = omega arith
  values_long is_later (next_value value later) = search (rules, length-append, value_long value, values_long true later)

  members_long : (is_later : Bool) (members : JsonMembers) → members_length members ≤ length (members_text is_later members)
  members_long is_later no_member = omega arith
  members_long is_later (next_member name value later) = search (rules, length-append, value_long value, members_long true later)

pub properties_in_json : (properties : List Property) →
    long_bytes (map (λ property. property.0) properties) ≤ values_length (json_values (map property_object properties))
properties_in_json [] = omega arith
properties_in_json (property ∷ later) =
    let names = length-append (name_if_long property.0) (flat_map name_if_long (map (λ property. property.0) later)) in
    let short = length-name_if_long property.0 in
    let shown = shown_as_long property.0 in
    let rest = properties_in_json later in
    omega (arith, names, short, shown, rest)

own_in_json_with : (after : List Member) (own : DescribedNode) (children : List Json) →
    values_length (json_values (map property_object (entries own.properties))) + values_length (json_values children)
    ≤ members_length (json_members (node_members_with after own children))
own_in_json_with after own children = by own.payload
  where
    by : (payload : NodePayload) →
        values_length (json_values (map property_object (entries own.properties))) + values_length (json_values children)
        ≤ members_length (json_members (node_members_with after (record own { payload = payload }) children))
    by NotAnImage = omega arith
    by (OfImage payload) = omega arith

pub own_in_json : (own : DescribedNode) (children : List Json) →
    values_length (json_values (map property_object (entries own.properties))) + values_length (json_values children)
    ≤ members_length (json_members (node_members own children))
own_in_json own children = own_in_json_with [] own children

nodes_in_json_with : (inside : List ℕ → List Member) (nodes : Nodes DescribedNode) →
    long_bytes (names_of_nodes (properties_by_node nodes)) ≤ values_length (json_values (node_objects_with inside nodes))
nodes_in_json_with inside none = omega arith
nodes_in_json_with inside (node name own children later) =
    let names = long_bytes_of_node name own.properties (properties_by_node children) (properties_by_node later) in
    let first = own_in_json_with (inside name) own (node_objects_with inside children) in
    let one = properties_in_json (entries own.properties) in
    let two = nodes_in_json_with inside children in
    let three = nodes_in_json_with inside later in
    omega (arith, names, first, one, two, three)

pub nodes_in_json : (nodes : Nodes DescribedNode) →
    long_bytes (names_of_nodes (properties_by_node nodes)) ≤ values_length (json_values (node_objects nodes))
nodes_in_json nodes = nodes_in_json_with (λ name. []) nodes

pub json_long_with : (inside : List ℕ → List Member) (tree : ImageTree) → IsImageTree tree →
    long_bytes_of tree ≤ length (json_line (fit_object_with inside tree))
json_long_with inside tree is =
    let nodes : Nodes DescribedNode = described_nodes tree.root.children tree.payloads in
    let same = ap (λ nodes. long_bytes (names_of_nodes nodes)) (all_shown tree is) in
    let names = long_bytes_of_node [] tree.root.own tree.root.children none in
    let root = own_in_json (plain_node tree.root.own) (node_objects_with inside nodes) in
    let one = properties_in_json (entries tree.root.own) in
    let two = nodes_in_json_with inside nodes in
    let text = value_long (fit_object_with inside tree) in
    let line = length-append (json_text (fit_object_with inside tree)) (10 ∷ []) in
    omega (arith, same, names, root, one, two, text, line)

json_long : (tree : ImageTree) → IsImageTree tree → long_bytes_of tree ≤ length (description_json (OfFit tree))
json_long tree is = json_long_with (λ name. []) tree is

-- An image with different long names that are together longer than the limit is too long to describe, in any form.
pub refused_names : (format : Format) (limits : Limits) (content : FitModel) (limit : ℕ) (e : Error) → IsHeld content →
    limit ≡ limits.file →
    IsFaultOrNoMemory (λ fault. (fault ≡ too_large limit) × HasLongerNames limit (root_of content.blob)) e
    → IsImageError format limits (OfFit (tree_of content)) e
refused_names format limits content limit (error.Refused fault) held is (is_fault, (names, distinct, are, longer)) =
    let of_file = long_names_of_tree content names distinct are in
    let good = is_image_tree content.blob.file (tree_of content) (held_means content held) in
    let described = by format good in
    (inr (omega (arith, is, longer, of_file, described)), is_fault ∙ ap too_large is)
  where
    by : (form : Format) → IsImageTree (tree_of content) →
        long_bytes_of (tree_of content) ≤ length (description_text form (OfFit (tree_of content)))
    by forms.Lines good = lines_long (tree_of content) good
    by forms.Json good = json_long (tree_of content) good
refused_names format limits content limit error.OutOfMemory held is failed = tt
refused_names format limits content limit error.ReadFailed held is failed = absurd failed
refused_names format limits content limit error.WriteFailed held is failed = absurd failed
