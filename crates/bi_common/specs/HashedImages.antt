use Rattle.std.specs.Prelude.{ℕ, List, [], ◌∷◌, Option, filter, map, option_map}
use Rattle.bi_blob.specs.Lookups.{Sibling, siblings, siblings_from}
use Rattle.bi_blob.specs.Tree.{FileNode}
use Rattle.bi_fdt.specs.Views.{node_of}
use Rattle.bi_fit.specs.Content.{FitModel, ImageModel}
use Rattle.bi_fdt.specs.declared.node.NodeRef.{NodeRef}
use Rattle.bi_fit.specs.ImagesWithNodes.{models_left, nodes_left}
use Rattle.bi_fit.specs.HashNodes.{file_hash, file_hashes, file_images, flat_map_pairs}
use Rattle.bi_fit.specs.Judgement.{CheckedHash}
use Rattle.bi_fit.specs.JudgementCalls.{checked_hash_of}
use Rattle.bi_fit.specs.Names.{is_hash_name}
use Rattle.bi_fit.specs.declared.hashes.Checked.{Checked}
use Rattle.bi_hash.specs.Regions.{bytes_of_region}
use Rattle.bi_common.specs.declared.hash_nodes.HashNodes.{HashNodes}
use Rattle.bi_common.specs.declared.hash_nodes.HashedImage.{HashedImage as Image}
use Rattle.bi_common.specs.declared.hash_nodes.HashedImages.{HashedImages}

-- Images that were read, with the verdicts on their hash nodes.

-- A hash node with its verdict, and the node.
pub record FoundHash : Type 0 where
  pub node : Sibling FileNode
  pub checked : CheckedHash

-- The hash nodes among children of an image node with this name, of an image with this payload.
abbrev pub found_hashes : (image : List ℕ) → (payload : Option (List ℕ))
    → List (Sibling FileNode) → List FoundHash
found_hashes image payload children =
    map (λ hash. record { node = hash; checked = file_hash image payload hash })
    (filter (λ child. is_hash_name child.name) children)

-- An image: its node, its payload, if it has one, and its hash nodes, with their verdicts.
pub record HashedImage : Type 0 where
  pub node : Sibling FileNode
  pub payload : Option (List ℕ)
  pub hashes : List CheckedHash
  pub found : List FoundHash

-- The image of an image node that was read.
abbrev pub hashed_image : Sibling FileNode → ImageModel → HashedImage
hashed_image entry image = record {
  node = entry;
  payload = image.payload;
  hashes = file_hashes entry.name image.payload (siblings entry.children);
  found = found_hashes entry.name image.payload (siblings entry.children);
}

-- The images of these image nodes.
abbrev pub hashed_images : List (Sibling FileNode) → List ImageModel → List HashedImage
hashed_images entries images =
    flat_map_pairs (λ entry image. hashed_image entry image ∷ []) entries images

-- The images of a flattened image tree that was read.
abbrev pub images_of_blob : FitModel → List HashedImage
images_of_blob content = hashed_images (siblings (file_images content.blob)) content.images

-- The hash nodes that are left of an image, as the code has them.
abbrev pub found_left : HashNodes → List FoundHash
found_left hashes =
    found_hashes
    hashes.image.now
    (option_map (bytes_of_region hashes.digests.now) hashes.payload)
    (siblings_from (option_map node_of hashes.next))

-- Their verdicts.
abbrev pub hashes_left : HashNodes → List CheckedHash
hashes_left hashes = map (λ hash. hash.checked) (found_left hashes)

-- A hash node with its verdict, as the code has it.
abbrev pub found_hash_of : NodeRef × Checked → FoundHash
found_hash_of found = record { node = node_of found.0; checked = checked_hash_of found.1 }

-- An image as the code has it.
abbrev pub image_value : Image → HashedImage
image_value image = record {
  node = node_of image.node;
  payload = option_map (λ payload. payload.now) image.payload;
  hashes = hashes_left image.hashes;
  found = found_left image.hashes;
}

-- The images that are left, as the code has them.
abbrev pub hashed_left : HashedImages → List HashedImage
hashed_left left = hashed_images (nodes_left left.images) (models_left left.images)
