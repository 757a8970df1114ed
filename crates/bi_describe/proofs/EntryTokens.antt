use Rattle.std.proofs.Common.{◌≡◌, List, [], ◌∷◌, ◌++◌, codes, flat_map, map, refl, sym, ap, ap₂, ◌∙◌, append_assoc, append-nil}
use Rattle.std.specs.FinMap.{entries}
use Rattle.std.proofs.lemmas.Grind.{flat_map-append}
use Rattle.bi_blob.specs.Tree.{Nodes, none, node, Property, PropertyMap, with_each}
use Rattle.bi_fdt.specs.Content.{Blob}
use Rattle.bi_fit.specs.Content.{FitModel, tree_of}
use Rattle.bi_fit.specs.ImageTree.{ImageTree}
use Rattle.bi_common.specs.CommonLines.{reservations_member}
use Rattle.bi_common.specs.Json.{Json, Member, json_array}
use Rattle.bi_common.specs.JsonTokens.{JsonToken, BeginObject, EndObject, MemberName, json_tokens, member_tokens, one, value_tokens}
use Rattle.bi_describe.specs.ReadDescription.{processor_members, read_tokens}
use Rattle.bi_describe.specs.DescriptionJson.{fit_object, node_members, node_objects, payload_members, property_object}
use Rattle.bi_describe.specs.ComparedNodes.{ComparedNode, ComparedPayload, NoImage, ImageWith, nodes_to_compare, described_node}
use Rattle.bi_describe.specs.ComparedNodes.{described_payload, plain_compared}
use Rattle.bi_describe.specs.Descriptions.{described_nodes, plain_node}
use Rattle.bi_describe.specs.EntryTokens.{entry_tokens}
use Rattle.bi_describe.specs.TreeEntries.{EntryModel, NodeBegins, NodeEnds, PropertyEntry, node_entries, own_entries, payload_entries}
use Rattle.bi_describe.specs.TreeEntries.{property_entries, tree_entries}
use Rattle.bi_describe.proofs.ComparedTrees.{as_described, nodes_described, plain_described}

-- The tokens of the entries of a flattened image tree are those of its JSON.

abbrev tokens_of : List EntryModel → List JsonToken
tokens_of entries = flat_map entry_tokens entries

each_property : (properties : List Property) → tokens_of (map PropertyEntry properties) ≡ value_tokens (map property_object properties)
each_property [] = refl
each_property (property ∷ later) =
    ap (λ (tokens : List JsonToken). json_tokens (property_object property) ++ tokens) (each_property later)

-- The member for the payload of a node, and those after it.
payload_first : (payload : ComparedPayload) (members : List Member) →
    tokens_of (payload_entries payload) ++ member_tokens members ≡ member_tokens (payload_members (described_payload payload) ++ members)
payload_first NoImage members = refl
payload_first (ImageWith payload) members = simp (append_assoc, append-nil) refl

-- The members for the properties and the children of a node, and its end.
abbrev last_members : PropertyMap → List Json → List Member
last_members properties children =
    (codes "properties", json_array (map property_object (entries properties))) ∷ (codes "children", json_array children) ∷ []

last_tokens : (properties : PropertyMap) (children : List Json) (later : List JsonToken) →
    tokens_of (property_entries properties) ++ (value_tokens children ++ (entry_tokens NodeEnds ++ later))
    ≡ member_tokens (last_members properties children) ++ (one EndObject ++ later)
last_tokens properties children later = simp (flat_map-append, each_property, append_assoc, append-nil) refl

-- What a node has besides its name, and its end.
own_tokens : (own : ComparedNode) (children : List Json) (later : List JsonToken) →
    tokens_of (own_entries own) ++ (value_tokens children ++ (entry_tokens NodeEnds ++ later))
    ≡ member_tokens (node_members (described_node own) children) ++ (one EndObject ++ later)
own_tokens own children later =
    let payload : List EntryModel = payload_entries own.payload in
    let properties : List EntryModel = property_entries own.properties in
    ap (λ (tokens : List JsonToken). tokens ++ (value_tokens children ++ (entry_tokens NodeEnds ++ later)))
    (flat_map-append entry_tokens payload properties)
    ∙ append_assoc (tokens_of payload) (tokens_of properties) _
    ∙ ap (λ (tokens : List JsonToken). tokens_of payload ++ tokens) (last_tokens own.properties children later)
    ∙ sym (append_assoc (tokens_of payload) (member_tokens (last_members own.properties children)) _)
    ∙ ap (λ (tokens : List JsonToken). tokens ++ (one EndObject ++ later))
    (payload_first own.payload (last_members own.properties children))

-- Nodes, each with those below it.
tokens_of_nodes : (nodes : Nodes ComparedNode) → tokens_of (node_entries nodes) ≡ value_tokens (node_objects (as_described nodes))
tokens_of_nodes none = refl
tokens_of_nodes (node name own children later) =
    let objects : List Json = node_objects (as_described children) in
    let after : List JsonToken = value_tokens (node_objects (as_described later)) in
    ap (λ (tokens : List JsonToken). entry_tokens (NodeBegins name) ++ tokens)
    (flat_map-append entry_tokens (own_entries own) (node_entries children ++ (NodeEnds ∷ node_entries later))
    ∙ ap (λ (tokens : List JsonToken). tokens_of (own_entries own) ++ tokens)
    (flat_map-append entry_tokens (node_entries children) (NodeEnds ∷ node_entries later)
    ∙ ap₂ (λ (below after : List JsonToken). below ++ (entry_tokens NodeEnds ++ after)) (tokens_of_nodes children) (tokens_of_nodes later))
    ∙ own_tokens own objects after)
    ∙ simp (append_assoc, append-nil) refl

-- The root of a tree, and its end.
root_tokens : (tree : ImageTree) → tokens_of (tree_entries tree) ++ entry_tokens NodeEnds
    ≡ member_tokens (node_members (plain_node tree.root.own) (node_objects (described_nodes tree.root.children tree.payloads)))
    ++ one EndObject
root_tokens tree =
    let nodes : Nodes ComparedNode = nodes_to_compare tree.root.children tree.payloads in
    let own : List EntryModel = property_entries tree.root.own in
    ap (λ (tokens : List JsonToken). tokens ++ entry_tokens NodeEnds)
    (flat_map-append entry_tokens own (node_entries nodes)
    ∙ ap (λ (tokens : List JsonToken). tokens_of own ++ tokens) (tokens_of_nodes nodes))
    ∙ append_assoc (tokens_of own) (value_tokens (node_objects (as_described nodes))) (entry_tokens NodeEnds)
    ∙ ap (λ (end : List JsonToken). tokens_of own ++ (value_tokens (node_objects (as_described nodes)) ++ end))
    (sym (append-nil (entry_tokens NodeEnds)))
    ∙ own_tokens (plain_compared tree.root.own) (node_objects (as_described nodes)) []
    ∙ ap (λ (end : List JsonToken). member_tokens (node_members (plain_node tree.root.own) (node_objects (as_described nodes))) ++ end)
    (append-nil (one EndObject))
    ∙ ap (λ nodes. member_tokens (node_members (plain_node tree.root.own) (node_objects nodes)) ++ one EndObject)
    (nodes_described tree.root.children tree.payloads)

-- The root of a devicetree, and its end. It has no images.
pub devicetree_tokens : (own : PropertyMap) (children : Nodes PropertyMap) →
    tokens_of (own_entries (plain_compared own) ++ node_entries (with_each plain_compared children)) ++ entry_tokens NodeEnds
    ≡ member_tokens (node_members (plain_node own) (node_objects (with_each plain_node children))) ++ one EndObject
devicetree_tokens own children =
    let nodes : Nodes ComparedNode = with_each plain_compared children in
    let properties : List EntryModel = property_entries own in
    ap (λ (tokens : List JsonToken). tokens ++ entry_tokens NodeEnds)
    (flat_map-append entry_tokens properties (node_entries nodes)
    ∙ ap (λ (tokens : List JsonToken). tokens_of properties ++ tokens) (tokens_of_nodes nodes))
    ∙ append_assoc (tokens_of properties) (value_tokens (node_objects (as_described nodes))) (entry_tokens NodeEnds)
    ∙ ap (λ (end : List JsonToken). tokens_of properties ++ (value_tokens (node_objects (as_described nodes)) ++ end))
    (sym (append-nil (entry_tokens NodeEnds)))
    ∙ own_tokens (plain_compared own) (node_objects (as_described nodes)) []
    ∙ ap (λ (end : List JsonToken). member_tokens (node_members (plain_node own) (node_objects (as_described nodes))) ++ end)
    (append-nil (one EndObject))
    ∙ ap (λ nodes. member_tokens (node_members (plain_node own) (node_objects nodes)) ++ one EndObject) (plain_described children)

-- A flattened image tree that was read.
pub tokens_of_tree : (content : FitModel) →
    read_tokens content.blob (tree_entries (tree_of content)) ≡ json_tokens (fit_object (tree_of content))
tokens_of_tree content =
    let blob : Blob = content.blob in
    ap (λ (root : List JsonToken). one BeginObject
    ++ (member_tokens (processor_members blob.cpu) ++ (member_tokens (reservations_member blob.reservations ∷ [])
    ++ ((one (MemberName (codes "root")) ++ (one BeginObject ++ root)) ++ one EndObject)))) (root_tokens (tree_of content))
    ∙ simp (append_assoc, append-nil) refl
