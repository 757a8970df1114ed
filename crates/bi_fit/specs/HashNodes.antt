use Rattle.std.specs.Prelude.{◌≡◌, ℕ, ◌+◌, List, [], ◌∷◌, ◌++◌, map, filter}
use Rattle.std.specs.Prelude.{Option, Some, None, option_map, option_and_then, bytes_eq, nat_eq}
use Rattle.std.specs.Prelude.{if◌then◌else◌}
use Rattle.std.specs.List.{ends_with, find}
use Rattle.bi_base.specs.Strings.{text_before_nul}
use Rattle.bi_blob.specs.Tree.{Nodes, FileNode, properties_of}
use Rattle.bi_blob.specs.Lookups.{Sibling, siblings, node_named, value_named}
use Rattle.bi_fdt.specs.Content.{Blob, root_of}
use Rattle.bi_hash.specs.Verdicts.{verdict_of}
use Rattle.bi_fit.specs.declared.key.Key.{Key}
use Rattle.bi_fit.specs.Names.{configurations_name, algo_name, value_name}
use Rattle.bi_fit.specs.Names.{is_hash_name, is_signature_name, key_name}
use Rattle.bi_fit.specs.ImageTree.{image_nodes, nodes_or_none, children_of}
use Rattle.bi_fit.specs.Content.{FitModel, ImageModel}
use Rattle.bi_fit.specs.Judgement.{CheckedHash, ListedImage, ListResult, Missing, ListedImages}
use Rattle.bi_fit.specs.Judgement.{NoKey, BadList, with_image, listed_names}

-- What follows from the nodes of a blob and the images that were read about hash nodes, listed
-- images and signatures. It is what follows from the image tree that they mean.

-- The image nodes of a blob.
abbrev pub file_images : Blob → Nodes FileNode
file_images blob = nodes_or_none (image_nodes (root_of blob))

-- The configuration nodes of a blob.
abbrev pub file_configurations : Blob → Nodes FileNode
file_configurations blob = nodes_or_none (children_of configurations_name (root_of blob).children)

-- A hash node of an image with the given name and payload, with its verdict.
abbrev pub file_hash : List ℕ → Option (List ℕ) → Sibling FileNode → CheckedHash
file_hash image payload hash = record {
  image = image;
  node_name = hash.name;
  algo = option_and_then text_before_nul (value_named (properties_of hash.own) algo_name);
  value = value_named (properties_of hash.own) value_name;
  verdict = verdict_of
      (value_named (properties_of hash.own) algo_name)
      (value_named (properties_of hash.own) value_name)
      payload;
}

-- The hash nodes among children of an image node.
abbrev pub file_hashes : List ℕ → Option (List ℕ) → List (Sibling FileNode) → List CheckedHash
file_hashes image payload children =
    map (file_hash image payload) (filter (λ child. is_hash_name child.name) children)

-- What a function gives for the two items at each place of two lists, one after another.
abbrev pub flat_map_pairs : {A B C : Type 0} → (A → B → List C) → List A → List B → List C
flat_map_pairs f [] ys = []
flat_map_pairs f (x ∷ xs) [] = []
flat_map_pairs f (x ∷ xs) (y ∷ ys) = f x y ++ flat_map_pairs f xs ys

-- The hash nodes of an image node, of an image that was read.
abbrev pub file_image_hashes : Sibling FileNode → ImageModel → List CheckedHash
file_image_hashes entry image = file_hashes entry.name image.payload (siblings entry.children)

-- The hash nodes of these image nodes, of images that were read.
abbrev pub file_verdicts : List (Sibling FileNode) → List ImageModel → List CheckedHash
file_verdicts entries images = flat_map_pairs file_image_hashes entries images

-- The signature nodes among the children of a node.
abbrev pub file_signatures : Sibling FileNode → List (Sibling FileNode)
file_signatures entry = filter (λ child. is_signature_name child.name) (siblings entry.children)

-- The payload of the image with a name, and what follows it in the list.
abbrev pub listed_payload : (index : ℕ) → (name : List ℕ) → Option (Option (List ℕ)) → ListResult
    → ListResult
listed_payload index name None later = Missing index
listed_payload index name (Some payload) later =
    with_image (record { name = name; payload = payload }) later

-- The payload of the image with a name, if there is such an image.
abbrev pub payload_named : List ℕ → List ImageModel → Option (Option (List ℕ))
payload_named name images =
    option_map (λ image. image.payload) (find (λ image. bytes_eq image.name name) images)

-- The images with these names, or the index of the first name that no image has.
abbrev pub file_list : List ImageModel → (index : ℕ) → List (List ℕ) → ListResult
file_list images index [] = ListedImages []
file_list images index (name ∷ later) =
    listed_payload index name (payload_named name images) (file_list images (index + 1) later)

-- These images at the front of what is listed.
abbrev pub with_images : List ListedImage → ListResult → ListResult
with_images [] listed = listed
with_images (image ∷ later) listed = with_image image (with_images later listed)

-- The node is a configuration, and the first with its name.
pub record IsConfiguration (content : FitModel) (entry : Sibling FileNode) : Type 0 where
  pub is_found : node_named (file_configurations content.blob) entry.name ≡ Some entry

-- What the value of a key lists.
abbrev pub file_listed_in : List ImageModel → List ℕ → ListResult
file_listed_in images value =
    if ends_with nat_eq value (0 ∷ []) then file_list images 0 (listed_names value) else BadList

-- What the value of a key lists. There may be no such key.
abbrev pub file_listed_at : List ImageModel → Option (List ℕ) → ListResult
file_listed_at images None = NoKey
file_listed_at images (Some value) = file_listed_in images value

-- What a node lists under a key.
abbrev pub file_listed : List ImageModel → Sibling FileNode → Key → ListResult
file_listed images entry key =
    file_listed_at images (value_named (properties_of entry.own) (key_name key))
