use Rattle.std.proofs.Common.{◌≡◌, ℕ, List, [], ◌∷◌, ◌++◌, codes, map, refl, sym, ap, ap₂, ◌∙◌}
use Rattle.std.proofs.Common.{append_assoc, append-nil}
use Rattle.std.specs.FinMap.{entries}
use Rattle.bi_blob.specs.Blob.{Reservation}
use Rattle.bi_blob.specs.Tree.{Nodes, none, node, Property, PropertyMap}
use Rattle.bi_fit.specs.ImageTree.{ImageTree}
use Rattle.bi_legacy.specs.Meaning.{LegacyImage}
use Rattle.bi_common.specs.CommonLines.{header_members, reservations_member}
use Rattle.bi_common.specs.Json.{Json, Member, json_array, json_object}
use Rattle.bi_common.specs.JsonTokens.{JsonToken, BeginArray, BeginObject, EndArray, EndObject, MemberName, json_tokens, member_tokens}
use Rattle.bi_common.specs.JsonTokens.{one, value_tokens}
use Rattle.bi_common.proofs.WrittenTokens.{member_tokens-append}
use Rattle.bi_describe.specs.ComparedNodes.{ComparedNode, ComparedPayload, NoImage, ImageWith, nodes_to_compare, described_node}
use Rattle.bi_describe.specs.ComparedNodes.{described_payload, plain_compared}
use Rattle.bi_describe.specs.DeepEntries.{deep_entry_tokens, entry_tokens_with, last_begun}
use Rattle.bi_describe.specs.DeepJson.{inside_members}
use Rattle.bi_describe.specs.DescriptionJson.{digest_members, digest_object_with, legacy_object_with}
use Rattle.bi_describe.specs.DescriptionJson.{fit_object_with, node_members, node_members_with, node_objects_with, payload_members_with}
use Rattle.bi_describe.specs.DescriptionJson.{property_object}
use Rattle.bi_describe.specs.Descriptions.{PayloadDigest, described_nodes, plain_node}
use Rattle.bi_describe.specs.Devicetrees.{Insides}
use Rattle.bi_describe.specs.EntryTokens.{entry_tokens}
use Rattle.bi_describe.specs.Ignoring.{OfImageNamed}
use Rattle.bi_describe.specs.ReadDescription.{processor_members}
use Rattle.bi_describe.specs.TreeEntries.{ChildrenBegin, EntryModel, NodeBegins, NodeEnds, PayloadEntry, PropertiesBegin, PropertyEntry}
use Rattle.bi_describe.specs.TreeEntries.{node_entries, own_entries, payload_entries, property_entries, tree_entries}
use Rattle.bi_describe.proofs.ComparedTrees.{as_described, nodes_described}

-- The tokens of the entries of a flattened image tree, with what is inside its payloads, are those of its JSON.

-- The object of a payload or a part.
pub digest_in_parts : (after : List Member) (digest : PayloadDigest) →
    one BeginObject ++ (member_tokens (digest_members digest) ++ (member_tokens after ++ one EndObject))
    ≡ json_tokens (digest_object_with after digest)
digest_in_parts after digest =
    ap (λ (tokens : List JsonToken). one BeginObject ++ tokens)
    (sym (append_assoc (member_tokens (digest_members digest)) (member_tokens after) (one EndObject))
    ∙ ap (λ (tokens : List JsonToken). tokens ++ one EndObject) (sym (member_tokens-append (digest_members digest) after)))

-- A legacy image whose parts have these objects.
pub legacy_in_parts_with : (parts : List Json) (image : LegacyImage) →
    one BeginObject ++ (member_tokens (header_members image)
    ++ (one (MemberName (codes "parts")) ++ (one BeginArray ++ (value_tokens parts ++ (one EndArray ++ one EndObject)))))
    ≡ json_tokens (legacy_object_with parts image)
legacy_in_parts_with parts image = simp (append_assoc, append-nil) refl

module _ (insides : Insides) where
  abbrev tokens_of : List ℕ → List EntryModel → List JsonToken
  tokens_of last entries = deep_entry_tokens insides last entries

  abbrev members_at : List ℕ → List Member
  members_at name = inside_members (insides (OfImageNamed name))

  abbrev last_after : (last : List ℕ) → List EntryModel → List ℕ
  last_after last [] = last
  last_after last (entry ∷ later) = last_after (last_begun last entry) later

  tokens-append : (last : List ℕ) (xs ys : List EntryModel) →
      tokens_of last (xs ++ ys) ≡ tokens_of last xs ++ tokens_of (last_after last xs) ys
  tokens-append last [] ys = refl
  tokens-append last (x ∷ xs) ys =
      ap (λ (tokens : List JsonToken). entry_tokens_with insides last x ++ tokens) (tokens-append (last_begun last x) xs ys)
      ∙ sym (append_assoc (entry_tokens_with insides last x) (tokens_of (last_begun last x) xs) (tokens_of (last_after last (x ∷ xs)) ys))

  each_property : (last : List ℕ) (properties : List Property) →
      tokens_of last (map PropertyEntry properties ++ ChildrenBegin ∷ [])
      ≡ value_tokens (map property_object properties) ++ entry_tokens ChildrenBegin
  each_property last [] = append-nil (entry_tokens ChildrenBegin)
  each_property last (property ∷ later) =
      ap (λ (tokens : List JsonToken). json_tokens (property_object property) ++ tokens) (each_property last later)
      ∙ sym (append_assoc (json_tokens (property_object property)) (value_tokens (map property_object later)) (entry_tokens ChildrenBegin))

  own_properties : (last : List ℕ) (properties : PropertyMap) →
      tokens_of last (property_entries properties)
      ≡ entry_tokens PropertiesBegin ++ (value_tokens (map property_object (entries properties)) ++ entry_tokens ChildrenBegin)
  own_properties last properties =
      ap (λ (tokens : List JsonToken). entry_tokens PropertiesBegin ++ tokens) (each_property last (entries properties))

  -- The members for the properties and the children of a node, and its end.
  abbrev last_members : PropertyMap → List Json → List Member
  last_members properties children =
      (codes "properties", json_array (map property_object (entries properties))) ∷ (codes "children", json_array children) ∷ []

  last_tokens : (last : List ℕ) (properties : PropertyMap) (children : List Json) (later : List JsonToken) →
      tokens_of last (property_entries properties) ++ (value_tokens children ++ (entry_tokens NodeEnds ++ later))
      ≡ member_tokens (last_members properties children) ++ (one EndObject ++ later)
  last_tokens last properties children later = simp (own_properties, append_assoc, append-nil) refl

  payload_first : (name : List ℕ) (payload : ComparedPayload) (members : List Member) →
      tokens_of name (payload_entries payload) ++ member_tokens members
      ≡ member_tokens (payload_members_with (members_at name) (described_payload payload) ++ members)
  payload_first name NoImage members = refl
  payload_first name (ImageWith payload) members = simp (append_assoc, append-nil) refl

  after_payload : (name : List ℕ) (payload : ComparedPayload) → last_after name (payload_entries payload) ≡ name
  after_payload name NoImage = refl
  after_payload name (ImageWith payload) = refl

  -- What a node has besides its name, and its end.
  own_tokens : (name : List ℕ) (own : ComparedNode) (children : List Json) (later : List JsonToken) →
      tokens_of name (own_entries own) ++ (value_tokens children ++ (entry_tokens NodeEnds ++ later))
      ≡ member_tokens (node_members_with (members_at name) (described_node own) children) ++ (one EndObject ++ later)
  own_tokens name own children later =
      let payload : List EntryModel = payload_entries own.payload in
      let properties : List EntryModel = property_entries own.properties in
      ap (λ (tokens : List JsonToken). tokens ++ (value_tokens children ++ (entry_tokens NodeEnds ++ later)))
      (tokens-append name payload properties
      ∙ ap (λ last. tokens_of name payload ++ tokens_of last properties) (after_payload name own.payload))
      ∙ append_assoc (tokens_of name payload) (tokens_of name properties) _
      ∙ ap (λ (tokens : List JsonToken). tokens_of name payload ++ tokens) (last_tokens name own.properties children later)
      ∙ sym (append_assoc (tokens_of name payload) (member_tokens (last_members own.properties children)) _)
      ∙ ap (λ (tokens : List JsonToken). tokens ++ (one EndObject ++ later))
      (payload_first name own.payload (last_members own.properties children))

  -- Nodes, each with those below it.
  tokens_of_nodes : (last : List ℕ) (nodes : Nodes ComparedNode) →
      tokens_of last (node_entries nodes) ≡ value_tokens (node_objects_with members_at (as_described nodes))
  tokens_of_nodes last none = refl
  tokens_of_nodes last (node name own children later) =
      let objects : List Json = node_objects_with members_at (as_described children) in
      let after : List JsonToken = value_tokens (node_objects_with members_at (as_described later)) in
      let then = last_after name (own_entries own) in
      let end = last_after then (node_entries children) in
      ap (λ (tokens : List JsonToken). entry_tokens (NodeBegins name) ++ tokens)
      (tokens-append name (own_entries own) (node_entries children ++ (NodeEnds ∷ node_entries later))
      ∙ ap (λ (tokens : List JsonToken). tokens_of name (own_entries own) ++ tokens)
      (tokens-append then (node_entries children) (NodeEnds ∷ node_entries later)
      ∙ ap₂ (λ (below after : List JsonToken). below ++ (entry_tokens NodeEnds ++ after)) (tokens_of_nodes then children)
      (tokens_of_nodes end later))
      ∙ own_tokens name own objects after)
      ∙ simp (append_assoc, append-nil) refl

  -- The root of a tree, and its end. It has no payload.
  root_tokens : (tree : ImageTree) → tokens_of [] (tree_entries tree) ++ entry_tokens NodeEnds
      ≡ member_tokens (node_members (plain_node tree.root.own)
      (node_objects_with members_at (described_nodes tree.root.children tree.payloads))) ++ one EndObject
  root_tokens tree =
      let nodes : Nodes ComparedNode = nodes_to_compare tree.root.children tree.payloads in
      let own : List EntryModel = property_entries tree.root.own in
      let objects : List Json = node_objects_with members_at (as_described nodes) in
      ap (λ (tokens : List JsonToken). tokens ++ entry_tokens NodeEnds)
      (tokens-append [] own (node_entries nodes)
      ∙ ap (λ (tokens : List JsonToken). tokens_of [] own ++ tokens) (tokens_of_nodes (last_after [] own) nodes))
      ∙ append_assoc (tokens_of [] own) (value_tokens objects) (entry_tokens NodeEnds)
      ∙ ap (λ (end : List JsonToken). tokens_of [] own ++ (value_tokens objects ++ end)) (sym (append-nil (entry_tokens NodeEnds)))
      ∙ last_tokens [] tree.root.own objects []
      ∙ ap (λ (end : List JsonToken). member_tokens (last_members tree.root.own objects) ++ end) (append-nil (one EndObject))
      ∙ ap (λ nodes. member_tokens (node_members (plain_node tree.root.own) (node_objects_with members_at nodes)) ++ one EndObject)
      (nodes_described tree.root.children tree.payloads)

  -- A flattened image tree.
  pub tokens_of_fit : (tree : ImageTree) (cpu : ℕ) (reservations : List Reservation) (entries : List EntryModel) → cpu ≡ tree.cpu →
      reservations ≡ tree.reservations → entries ≡ tree_entries tree →
      one BeginObject ++ (member_tokens (processor_members cpu) ++ (member_tokens (reservations_member reservations ∷ [])
      ++ (one (MemberName (codes "root")) ++ (one BeginObject ++ (tokens_of [] entries ++ (entry_tokens NodeEnds ++ one EndObject))))))
      ≡ json_tokens (fit_object_with members_at tree)
  tokens_of_fit tree cpu reservations entries is_cpu are_reservations are_entries =
      (λ i. one BeginObject ++ (member_tokens (processor_members (is_cpu i))
      ++ (member_tokens (reservations_member (are_reservations i) ∷ [])
      ++ (one (MemberName (codes "root")) ++ (one BeginObject
      ++ (tokens_of [] (are_entries i) ++ (entry_tokens NodeEnds ++ one EndObject)))))))
      ∙ ap (λ (root : List JsonToken). one BeginObject
      ++ (member_tokens (processor_members tree.cpu) ++ (member_tokens (reservations_member tree.reservations ∷ [])
      ++ (one (MemberName (codes "root")) ++ (one BeginObject ++ root)))))
      (sym (append_assoc (tokens_of [] (tree_entries tree)) (entry_tokens NodeEnds) (one EndObject))
      ∙ ap (λ (root : List JsonToken). root ++ one EndObject) (root_tokens tree))
      ∙ simp (append_assoc, append-nil) refl
