use Rattle.std.proofs.Common.{◌≡◌, ℕ, ◌+◌, ◌^◌, ◌≤◌, ◌<◌, List, [], ◌∷◌, ◌++◌, length, map, refl, sym, rules}
use Rattle.std.proofs.Common.{◌∙◌}
use Rattle.std.proofs.Common.{subst, arith, nat_eq, Option, Some, None}
use Rattle.std.specs.Prelude.{⊤}
use Rattle.std.specs.FinMap.{from_entries, get, get-from_entries}
use Rattle.std.specs.List.{AllByRecursion}
use Rattle.std.proofs.lemmas.Cmp.{nat_list_cmp_total}
use Rattle.bi_base.proofs.ListMembers.{each-back, each-front, each-map, each-map_back}
use Rattle.bi_blob.specs.Events.{EncodeEvents, FileEvent, FileNodeStart, FileNodeProperty, FileNodeEnd, file_events}
use Rattle.bi_blob.specs.Lookups.{Sibling, node_named}
use Rattle.bi_blob.specs.Tokens.{Token, BeginNode, EndNode, Prop, Nop, End, AreEncodings, width}
use Rattle.bi_blob.specs.Tree.{Nodes, none, node, Root, EachOwn, FileNode, FileProperty, Property, PropertyMap, as_nodes, properties_of}
use Rattle.bi_blob.specs.Tree.{property_of, with_each}
use Rattle.bi_blob.proofs.Texts.PropertyOrder.{found-each}
use Rattle.bi_fit.specs.declared.key.Key.{Key}
use Rattle.bi_fit.specs.File.{IsFitFile}
use Rattle.bi_fit.specs.ImageTree.{ImageTree, children_of, nodes_or_none, with_children_of, without_payload, without_payloads}
use Rattle.bi_fit.specs.Judgement.{Image, ListResult, NoConfig, NoKey, BadList, Missing, ListedImages, configuration_nodes}
use Rattle.bi_fit.specs.Judgement.{images_of, list_images, listed_at, listed_from, listed_in, listed_names, listed_of, listed_under}
use Rattle.bi_fit.specs.Judgement.{with_byte}
use Rattle.bi_fit.specs.Names.{configurations_name, images_name, key_name}
use Rattle.bi_fit.proofs.Meanings.{same_in_some}
use Rattle.bi_fit.proofs.PayloadProperties.{get-without}

-- The value of each property of a file is shorter than 2^32 bytes, so the index of a name in it is below 2^32.

-- ---- properties of the file

abbrev HasShortValue : FileEvent → Type 0
HasShortValue (FileNodeProperty property) = length property.value < 2 ^ 32
HasShortValue event = ⊤

tokens_short : (strings : List ℕ) (at : ℕ) (tokens : List Token) (bytes : List ℕ) (events : List FileEvent) →
    AreEncodings (tokens ++ End ∷ []) bytes → EncodeEvents strings at tokens events → AllByRecursion HasShortValue events
tokens_short strings at [] bytes [] are encodes = tt
tokens_short strings at (Nop ∷ tokens) bytes events are encodes = tokens_short strings (at + width Nop) tokens _ events are.1 encodes
tokens_short strings at (BeginNode token_name ∷ tokens) bytes (FileNodeStart place name ∷ events) are encodes =
    (tt, tokens_short strings (at + width (BeginNode token_name)) tokens _ events are.1 encodes.1)
tokens_short strings at (Prop offset value ∷ tokens) bytes (FileNodeProperty property ∷ events) are encodes = (
  subst (λ (value : List ℕ). length value < 2 ^ 32) encodes.0.value are.0.is_token.1,
  tokens_short strings (at + width (Prop offset value)) tokens _ events are.1 encodes.1,
)
tokens_short strings at (EndNode ∷ tokens) bytes (FileNodeEnd ∷ events) are encodes =
    (tt, tokens_short strings (at + width EndNode) tokens _ events are.1 encodes)
tokens_short strings at tokens bytes events are encodes = absurd encodes

-- Each property of the node has a short value.
abbrev AreShort : FileNode → Type 0
AreShort own = AllByRecursion (λ (property : FileProperty). length property.value < 2 ^ 32) own.properties

nodes_short : (nodes : Nodes FileNode) → AllByRecursion HasShortValue (file_events nodes) → EachOwn AreShort nodes
nodes_short none each = tt
nodes_short (node name own children later) each =
    let below = each-back HasShortValue (map FileNodeProperty own.properties) (file_events children ++ (FileNodeEnd ∷ file_events later))
    each.1
    in (
      each-map_back HasShortValue FileNodeProperty own.properties
          (each-front HasShortValue (map FileNodeProperty own.properties) (file_events children ++ (FileNodeEnd ∷ file_events later))
          each.1),
      nodes_short children (each-front HasShortValue (file_events children) (FileNodeEnd ∷ file_events later) below),
      nodes_short later (each-back HasShortValue (file_events children) (FileNodeEnd ∷ file_events later) below).1,
    )

-- ---- properties of the meaning of the file

abbrev AreShortByName : PropertyMap → Type 0
AreShortByName own = (name value : List ℕ) → get own name ≡ Some value → length value < 2 ^ 32

by_name : (own : FileNode) → AreShort own → AreShortByName (from_entries (properties_of own))
by_name own are name value there =
    found-each (λ (property : Property). length property.1 < 2 ^ 32) (properties_of own)
    (each-map (λ (property : Property). length property.1 < 2 ^ 32) property_of own.properties are) name value
    (sym (get-from_entries nat_list_cmp_total (properties_of own) name) ∙ there)

all_by_name : (nodes : Nodes FileNode) → EachOwn AreShort nodes → EachOwn AreShortByName
    (with_each from_entries (with_each properties_of nodes))
all_by_name none are = tt
all_by_name (node name own children later) are = (by_name own are.0, all_by_name children are.1, all_by_name later are.2)

without : (own : PropertyMap) → AreShortByName own → AreShortByName (without_payload own)
without own are name value there = search (rules, get-without)

all_without : (nodes : Nodes PropertyMap) → EachOwn AreShortByName nodes → EachOwn AreShortByName (without_payloads nodes)
all_without none are = tt
all_without (node name own children later) are = (without own are.0, are.1, all_without later are.2)

images_without : (nodes : Nodes PropertyMap) → EachOwn AreShortByName nodes →
    EachOwn AreShortByName (with_children_of images_name without_payloads nodes)
images_without none are = tt
images_without (node name own children later) are = search (rules, all_without, images_without later are.2)

tree_short : (file : List ℕ) (tree : ImageTree) → IsFitFile file tree → EachOwn AreShortByName tree.root.children
tree_short file tree is =
    let each = tokens_short _ _ is.blob.holds.tokens is.blob.holds.structure (file_events (as_nodes is.root)) is.blob.holds.is_encoded
    is.blob.holds.encodes in
    subst (λ (root : Root PropertyMap). EachOwn AreShortByName root.children) (sym is.is_root)
    (images_without (with_each from_entries (with_each properties_of is.root.children))
    (all_by_name is.root.children (nodes_short (as_nodes is.root) each).1))

-- ---- of a configuration

in_children : (wanted : List ℕ) (nodes inner : Nodes PropertyMap) → EachOwn AreShortByName nodes → children_of wanted nodes ≡ Some inner →
    EachOwn AreShortByName inner
in_children wanted none inner are has = absurd cc
in_children wanted (node name own children later) inner are has = search (rules, same_in_some, in_children wanted later inner are.2)

named_own : (wanted : List ℕ) (nodes : Nodes PropertyMap) (found : Sibling PropertyMap) → EachOwn AreShortByName nodes →
    node_named nodes wanted ≡ Some found → AreShortByName found.own
named_own wanted none found are is = absurd cc
named_own wanted (node name own children later) found are is = search (rules, same_in_some, named_own wanted later found are.2)

configurations_short : (file : List ℕ) (tree : ImageTree) → IsFitFile file tree → EachOwn AreShortByName (configuration_nodes tree)
configurations_short file tree is = by (children_of configurations_name tree.root.children) refl
  where
    by : (o : Option (Nodes PropertyMap)) → children_of configurations_name tree.root.children ≡ o →
        EachOwn AreShortByName (nodes_or_none o)
    by None found = tt
    by (Some inner) found = in_children configurations_name tree.root.children inner (tree_short file tree is) found

-- ---- the index of a name

-- The index of the first name without an image, if there is one, is below 2^32.
abbrev pub HasSmallIndex : ListResult → Type 0
HasSmallIndex (Missing index) = index < 2 ^ 64
HasSmallIndex result = ⊤

length-with_byte : (byte : ℕ) (names : List (List ℕ)) → length (with_byte byte names) ≡ length names
length-with_byte byte [] = refl
length-with_byte byte (name ∷ later) = refl

fewer_names : (value : List ℕ) → length (listed_names value) ≤ length value
fewer_names [] = omega arith
fewer_names (byte ∷ later) = search (rules, length-with_byte, fewer_names later)

found_small : (index : ℕ) (name : List ℕ) (found : Option Image) (later : ListResult) → index < 2 ^ 64 → HasSmallIndex later →
    HasSmallIndex (listed_from index name found later)
found_small index name None later small rest = small
found_small index name (Some image) NoConfig small rest = tt
found_small index name (Some image) NoKey small rest = tt
found_small index name (Some image) BadList small rest = tt
found_small index name (Some image) (Missing missing) small rest = rest
found_small index name (Some image) (ListedImages images) small rest = tt

list_small : (images : List Image) (index : ℕ) (names : List (List ℕ)) → index + length names < 2 ^ 64 →
    HasSmallIndex (list_images images index names)
list_small images index [] small = tt
list_small images index (name ∷ later) small = search (rules, found_small, list_small images (index + 1) later (omega (arith, small)))

value_small : (images : List Image) (value : List ℕ) → length value < 2 ^ 32 → HasSmallIndex (listed_in images value)
value_small images value short = search (rules, nat_eq, list_small, fewer_names)

key_small : (images : List Image) (own : PropertyMap) (name : List ℕ) → AreShortByName own → HasSmallIndex (listed_at images (get own name))
key_small images own name are = search (rules, value_small)

pub index_small : (file : List ℕ) (tree : ImageTree) → IsFitFile file tree → (name : List ℕ) (key : Key) →
    HasSmallIndex (listed_of tree name key)
index_small file tree is name key = by (node_named (configuration_nodes tree) name) refl
  where
    by : (o : Option (Sibling PropertyMap)) → node_named (configuration_nodes tree) name ≡ o →
        HasSmallIndex (listed_under (images_of tree) o key)
    by None found = tt
    by (Some configuration) found =
        key_small (images_of tree) configuration.own (key_name key)
        (named_own name (configuration_nodes tree) configuration (configurations_short file tree is) found)
