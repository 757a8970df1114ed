use Rattle.std.specs.Prelude.{◌≡◌, ◌<◌, ◌++◌}
use Rattle.std.specs.Prelude.{ℕ, ◌+◌, List, [], ◌∷◌, map, flat_map, Option, Some, None}
use Rattle.std.specs.Prelude.{option_and_then, length, filter, bytes_eq, nat_eq, ◌==◌}
use Rattle.std.specs.Prelude.{if◌then◌else◌}
use Rattle.std.specs.List.{ends_with, find}
use Rattle.std.specs.FinMap.{get}
use Rattle.bi_base.specs.Strings.{text_before_nul}
use Rattle.bi_blob.specs.Tree.{Nodes, PropertyMap, names}
use Rattle.bi_blob.specs.Lookups.{Sibling, siblings, node_named}
use Rattle.bi_hash.specs.declared.verdicts.Verdict.{Verdict}
use Rattle.bi_hash.specs.Verdicts.{verdict_of}
use Rattle.bi_fit.specs.declared.key.Key.{Key}
use Rattle.bi_fit.specs.Names.{configurations_name, algo_name, value_name, default_name}
use Rattle.bi_fit.specs.Names.{is_hash_name, is_signature_name, key_name}
use Rattle.bi_fit.specs.ImageTree.{ImageTree, image_nodes, nodes_or_none, children_of}

-- What follows from a flattened image tree about its images and configurations: the verdicts on
-- its hash nodes, the images that each configuration lists, the default configuration, and how
-- many signatures there are (Flattened Image Tree Specification; which keys there are, and the
-- order of refusals, is profile of this project). All of it is a function of the image tree, so it
-- is the same for files that mean the same.

-- An image: its node and its payload, if it has one. No definition here reads the nodes after the
-- node.
pub record Image : Type 0 where
  pub entry : Sibling PropertyMap
  pub payload : Option (List ℕ)

-- Nodes and as many payloads, as a list of images.
abbrev pub images_with : List (Sibling PropertyMap) → List (Option (List ℕ)) → List Image
images_with [] payloads = []
images_with entries [] = []
images_with (entry ∷ entries) (payload ∷ payloads) =
    record { entry = entry; payload = payload } ∷ images_with entries payloads

-- The images of a tree, in their order.
abbrev pub images_of : ImageTree → List Image
images_of tree = images_with (siblings (nodes_or_none (image_nodes tree.root))) tree.payloads

-- A hash node: the names of its image and of itself, the text of its algo, if it has one, its
-- value and the verdict on it.
pub record CheckedHash : Type 0 where
  pub image : List ℕ
  pub node_name : List ℕ
  pub algo : Option (List ℕ)
  pub value : Option (List ℕ)
  pub verdict : Verdict

-- A hash node of an image, with its verdict.
abbrev pub checked_hash : Image → Sibling PropertyMap → CheckedHash
checked_hash image hash = record {
  image = image.entry.name;
  node_name = hash.name;
  algo = option_and_then text_before_nul (get hash.own algo_name);
  value = get hash.own value_name;
  verdict = verdict_of
      (get hash.own algo_name)
      (get hash.own value_name)
      image.payload;
}

-- The hash nodes of an image, in their order.
abbrev pub hash_nodes : Image → List (Sibling PropertyMap)
hash_nodes image = filter (λ child. is_hash_name child.name) (siblings image.entry.children)

-- The verdicts of a tree: image by image, and, for each image, hash node by hash node.
abbrev pub verdicts_of : ImageTree → List CheckedHash
verdicts_of tree = flat_map (λ image. map (checked_hash image) (hash_nodes image)) (images_of tree)

-- The configuration nodes of a tree: the children of the root's child `configurations`.
abbrev pub configuration_nodes : ImageTree → Nodes PropertyMap
configuration_nodes tree = nodes_or_none (children_of configurations_name tree.root.children)

-- The name of the default configuration: the text of the property `default` of `configurations`.
-- The configuration need not exist.
abbrev pub default_of : ImageTree → Option (List ℕ)
default_of tree =
    option_and_then
    (λ configurations. option_and_then text_before_nul (get configurations.own default_name))
    (node_named tree.root.children configurations_name)

-- One more byte at the front of the first name of a list. What no zero follows is not a name.
abbrev pub with_byte : ℕ → List (List ℕ) → List (List ℕ)
with_byte byte [] = []
with_byte byte (name ∷ later) = (byte ∷ name) ∷ later

-- The names that these bytes list, each followed by a zero.
abbrev pub listed_names : List ℕ → List (List ℕ)
listed_names [] = []
listed_names (byte ∷ later) =
    if byte == 0 then [] ∷ listed_names later else with_byte byte (listed_names later)

-- The first name that a value lists is this one, and these bytes, which follow its zero, list the
-- later names.
pub record BeginsWithName (value name later : List ℕ) : Type 0 where
  pub is : value ≡ name ++ 0 ∷ later
  pub listed : listed_names value ≡ name ∷ listed_names later
  pub shorter : length later < length value

-- A name that a configuration lists, and the payload of its image, if it has one.
pub record ListedImage : Type 0 where
  pub name : List ℕ
  pub payload : Option (List ℕ)

-- What a configuration lists under a key: images, or the first reason why not.
pub data ListResult : Type 0 where
  NoConfig : ListResult
  NoKey : ListResult
  BadList : ListResult
  Missing : (index : ℕ) → ListResult
  ListedImages : (images : List ListedImage) → ListResult

-- The image with the given name, if there is one.
abbrev pub image_named : List ℕ → List Image → Option Image
image_named name images = find (λ image. bytes_eq image.entry.name name) images

-- One more image at the front of what is listed.
abbrev pub with_image : ListedImage → ListResult → ListResult
with_image image (ListedImages later) = ListedImages (image ∷ later)
with_image image refusal = refusal

-- The image with a name, and what follows it in the list.
abbrev pub listed_from : (index : ℕ) → (name : List ℕ) → Option Image → ListResult → ListResult
listed_from index name None later = Missing index
listed_from index name (Some image) later =
    with_image (record { name = name; payload = image.payload }) later

-- The images with these names, or the index of the first name that no image has.
abbrev pub list_images : List Image → (index : ℕ) → List (List ℕ) → ListResult
list_images images index [] = ListedImages []
list_images images index (name ∷ later) =
    listed_from index name (image_named name images) (list_images images (index + 1) later)

-- What the value of a key lists. It is a list of names if its last byte is a zero, which an empty
-- value does not have.
abbrev pub listed_in : List Image → List ℕ → ListResult
listed_in images value =
    if ends_with nat_eq value (0 ∷ []) then list_images images 0 (listed_names value) else BadList

-- What the value of a key lists. There may be no such key.
abbrev pub listed_at : List Image → Option (List ℕ) → ListResult
listed_at images None = NoKey
listed_at images (Some value) = listed_in images value

-- What a node lists under a key. There may be no node.
abbrev pub listed_under : List Image → Option (Sibling PropertyMap) → Key → ListResult
listed_under images None key = NoConfig
listed_under images (Some configuration) key =
    listed_at images (get configuration.own (key_name key))

-- What the configuration with the given name lists under a key.
abbrev pub listed_of : ImageTree → List ℕ → Key → ListResult
listed_of tree name key =
    listed_under (images_of tree) (node_named (configuration_nodes tree) name) key

-- The signature nodes among the children of a node.
abbrev pub signatures_in : Sibling PropertyMap → List (Sibling PropertyMap)
signatures_in entry = filter (λ child. is_signature_name child.name) (siblings entry.children)

-- How many signature nodes there are: children of image nodes and of configuration nodes.
abbrev pub signature_count : ImageTree → ℕ
signature_count tree =
    length (flat_map (λ image. signatures_in image.entry) (images_of tree))
    + length (flat_map signatures_in (siblings (configuration_nodes tree)))

-- All that follows from a tree about its images and configurations.
pub record Judgement : Type 0 where
  pub verdicts : List CheckedHash
  pub configurations : List (List ℕ)
  pub listed : List ℕ → Key → ListResult
  pub default_configuration : Option (List ℕ)
  pub signatures : ℕ

-- The judgement of a tree.
unfoldable pub judgement : ImageTree → Judgement
judgement tree = record {
  verdicts = verdicts_of tree;
  configurations = names (configuration_nodes tree);
  listed = listed_of tree;
  default_configuration = default_of tree;
  signatures = signature_count tree;
}
