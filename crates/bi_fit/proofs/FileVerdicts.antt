use Rattle.std.proofs.Common.{◌≡◌, List, [], ◌∷◌, map, flat_map, filter, option_and_then, refl, rules}
use Rattle.bi_blob.specs.Tree.{FileNode}
use Rattle.bi_blob.specs.Lookups.{Sibling, siblings}
use Rattle.bi_fit.specs.Names.{is_hash_name}
use Rattle.bi_fit.specs.Content.{FitModel, ImageModel, tree_of}
use Rattle.bi_fit.specs.Judgement.{Image, images_with, checked_hash, hash_nodes, verdicts_of}
use Rattle.bi_fit.specs.HashNodes.{file_images, file_hash, file_hashes, file_verdicts}
use Rattle.bi_fit.proofs.FileNodes.{sibling_by_name, bare_image, get-by_name, siblings-by_name, image_siblings}

-- The verdicts of an image tree that was read are those of the image nodes in its blob.

-- A hash node has the same verdict in the tree.
hash_is : (image : Image) (hash : Sibling FileNode) →
    checked_hash image (sibling_by_name hash) ≡ file_hash image.entry.name image.payload hash
hash_is image hash = search (rules, option_and_then, get-by_name)

-- So have hash nodes among children.
pub hashes_are : (image : Image) (children : List (Sibling FileNode)) →
    map (checked_hash image) (filter (λ child. is_hash_name child.name) (map sibling_by_name children))
    ≡ file_hashes image.entry.name image.payload children
hashes_are image [] = refl
hashes_are image (child ∷ later) = search (rules, hash_is, hashes_are image later)

-- And those of all images.
verdicts_with : (entries : List (Sibling FileNode)) (images : List ImageModel) →
    flat_map (λ image. map (checked_hash image) (hash_nodes image))
    (images_with (map bare_image entries) (map (λ image. image.payload) images)) ≡ file_verdicts entries images
verdicts_with [] images = refl
verdicts_with (entry ∷ entries) [] = refl
verdicts_with (entry ∷ entries) (image ∷ images) = search (rules, siblings-by_name, hashes_are, verdicts_with entries images)

pub verdicts_are : (content : FitModel) → verdicts_of (tree_of content) ≡ file_verdicts (siblings (file_images content.blob)) content.images
verdicts_are content = search (rules, image_siblings, verdicts_with)
