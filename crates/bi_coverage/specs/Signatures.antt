use Rattle.std.specs.Prelude.{ℕ, Bool, true, false, ◌&&◌, List, [], ◌∷◌, ◌++◌, length, map}
use Rattle.std.specs.Prelude.{filter, flat_map, Option, None, Some}
use Rattle.std.specs.Prelude.{option_and_then, unwrap_or, codes, nat_eq, if◌then◌else◌}
use Rattle.std.specs.FinMap.{get, entries}
use Rattle.std.specs.List.{ends_with}
use Rattle.bi_blob.specs.Layout.{is_among}
use Rattle.bi_blob.specs.Lookups.{Sibling, siblings}
use Rattle.bi_blob.specs.Tree.{Nodes, Property, PropertyMap, names}
use Rattle.bi_fit.specs.ImageTree.{ImageTree, image_nodes, nodes_or_none, children_of}
use Rattle.bi_fit.specs.Judgement.{configuration_nodes, listed_names}
use Rattle.bi_fit.specs.Names.{images_name, configurations_name, value_name, default_name}
use Rattle.bi_fit.specs.Names.{is_hash_name, is_signature_name}
use Rattle.bi_coverage.specs.Numbers.{sum_of}
use Rattle.bi_coverage.specs.Paths.{path_text, each_once}

-- The signatures of configurations, and what they must cover (Flattened Image Tree Specification;
-- U-Boot, boot/image-fit-sig.c: fit_config_check_sig, fit_config_add_hash). All of it is a function
-- of the image tree, so it is the same for files that mean the same.

-- The property of a signature node that lists the paths of the nodes that were hashed.
abbrev pub hashed_nodes_name : List ℕ
hashed_nodes_name = codes "hashed-nodes"

-- The child of an image node that says how the payload is encrypted.
abbrev pub cipher_name : List ℕ
cipher_name = codes "cipher"

-- ---- signature nodes

-- Whether a node has a value, and it is not empty.
abbrev pub has_bytes : Option (List ℕ) → Bool
has_bytes None = false
has_bytes (Some []) = false
has_bytes (Some (byte ∷ later)) = true

-- Whether a child of a configuration node is signed: its name begins with `signature`, and it has a
-- property `value` that is not empty.
abbrev pub is_signed : Sibling PropertyMap → Bool
is_signed child = is_signature_name child.name && has_bytes (get child.own value_name)

-- The signed nodes of a configuration, in order.
abbrev pub signed_nodes : Sibling PropertyMap → List (Sibling PropertyMap)
signed_nodes configuration = filter is_signed (siblings configuration.children)

-- The names that a value lists, if it is a list of names: its last byte is a zero.
abbrev pub names_of_value : List ℕ → Option (List (List ℕ))
names_of_value value =
    if ends_with nat_eq value (0 ∷ []) then Some (listed_names value) else None

-- The paths that a signature node records, if its `hashed-nodes` is a list of names.
abbrev pub recorded_paths : Sibling PropertyMap → Option (List (List ℕ))
recorded_paths signature = option_and_then names_of_value (get signature.own hashed_nodes_name)

-- ---- references

-- The names of the properties of a configuration that name no image, whatever their values are.
abbrev pub other_names : List (List ℕ)
other_names = codes "description" ∷ codes "compatible" ∷ default_name ∷ []

-- The names that a property of a configuration lists. They may be names of images.
abbrev pub names_in_property : Property → List (List ℕ)
names_in_property property =
    if is_among property.0 other_names then [] else unwrap_or (names_of_value property.1) []

-- The names that a configuration lists, in byte order of the names of its properties.
abbrev pub names_of_configuration : Sibling PropertyMap → List (List ℕ)
names_of_configuration configuration = flat_map names_in_property (entries configuration.own)

-- The image nodes of a tree.
abbrev pub images_in : ImageTree → Nodes PropertyMap
images_in tree = nodes_or_none (image_nodes tree.root)

-- The references of a configuration: the names of the images that it lists, each once.
abbrev pub references : ImageTree → Sibling PropertyMap → List (List ℕ)
references tree configuration =
    each_once
    (filter (λ name. is_among name (names (images_in tree)))
    (names_of_configuration configuration))

-- ---- needed paths

-- Of the names of the children of an image node, those that a signature must cover: the hash nodes,
-- and then `cipher`, if it is there.
abbrev pub covered_names : List (List ℕ) → List (List ℕ)
covered_names children =
    filter is_hash_name children
    ++ (if is_among cipher_name children then cipher_name ∷ [] else [])

-- Paths that are needed together: the path of a node, and those of nodes below it.
pub record NeededPart : Type 0 where
  pub path : List ℕ
  pub below : List (List ℕ)

-- All of them.
abbrev pub paths_of_part : NeededPart → List (List ℕ)
paths_of_part part = part.path ∷ part.below

-- The path of a node alone.
abbrev pub single_part : (names : List (List ℕ)) → NeededPart
single_part names = record { path = path_text names; below = [] }

-- The path of an image, and those of its children with these names.
abbrev pub image_part : (image : List ℕ) → (children : List (List ℕ)) → NeededPart
image_part image children = record {
  path = path_text (images_name ∷ image ∷ []);
  below = map (λ child. path_text (images_name ∷ image ∷ child ∷ [])) children;
}

-- The names of the children of an image of a tree that a signature must cover.
abbrev pub covered_below : ImageTree → (image : List ℕ) → List (List ℕ)
covered_below tree image =
    covered_names (names (nodes_or_none (children_of image (images_in tree))))

-- What a signature of the configuration with this name and these references must cover: the root,
-- the configuration and the references.
abbrev pub parts_for : ImageTree → (configuration : List ℕ) → (references : List (List ℕ))
    → List NeededPart
parts_for tree configuration references =
    single_part []
    ∷ single_part (configurations_name ∷ configuration ∷ [])
    ∷ map (λ image. image_part image (covered_below tree image)) references

-- What a signature of a configuration must cover.
abbrev pub needed_parts : ImageTree → Sibling PropertyMap → List NeededPart
needed_parts tree configuration =
    parts_for tree configuration.name (references tree configuration)

-- The paths of these parts, in order.
abbrev pub paths_of_parts : List NeededPart → List (List ℕ)
paths_of_parts parts = flat_map paths_of_part parts

-- The needed paths of a configuration, in order.
abbrev pub needed_paths : ImageTree → Sibling PropertyMap → List (List ℕ)
needed_paths tree configuration = paths_of_parts (needed_parts tree configuration)

-- ---- the bound on paths

-- How long some paths are together.
abbrev pub total_length : List (List ℕ) → ℕ
total_length paths = sum_of (map length paths)

-- How long the needed paths of each signed node of a configuration are.
abbrev pub needed_lengths : ImageTree → Sibling PropertyMap → List ℕ
needed_lengths tree configuration =
    map
    (λ signature. total_length (needed_paths tree configuration))
    (signed_nodes configuration)

-- How long those of all signed nodes of all configurations are together.
abbrev pub all_needed_length : ImageTree → ℕ
all_needed_length tree =
    sum_of (flat_map (needed_lengths tree) (siblings (configuration_nodes tree)))
