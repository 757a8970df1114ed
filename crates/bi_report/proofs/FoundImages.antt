use Rattle.std.proofs.Common.{◌≡◌, List, [], ◌∷◌, ◌++◌, map, filter, option_and_then, refl, sym, ap, ap₂, ◌∙◌, rules}
use Rattle.std.specs.List.{flat_map}
use Rattle.std.proofs.lemmas.List.Folds.{flat_map-map}
use Rattle.bi_blob.specs.Lookups.{Sibling, siblings}
use Rattle.bi_blob.specs.Tree.{FileNode}
use Rattle.bi_fit.specs.Content.{FitModel, ImageModel, tree_of}
use Rattle.bi_fit.specs.HashNodes.{file_hash, file_images, file_verdicts}
use Rattle.bi_fit.specs.Judgement.{Image, images_of, images_with, verdicts_of}
use Rattle.bi_fit.specs.Names.{is_hash_name}
use Rattle.bi_fit.proofs.FileNodes.{bare_image, get-by_name, image_siblings, sibling_by_name, siblings-by_name}
use Rattle.bi_fit.proofs.FileVerdicts.{verdicts_are}
use Rattle.bi_common.specs.HashedImages.{FoundHash, found_hashes, hashed_image, hashed_images, images_of_blob}
use Rattle.bi_report.specs.Checking.{Concern, hash_concerns, hashed_concerns, image_concerns, judged_hash, judged_hashes}
use Rattle.bi_report.specs.FoundConcerns.{HashOf, NodeItself, concerns_in, found_in_hash, found_in_image, judged_found}
use Rattle.bi_report.specs.Reports.{hashes_of_images}
use Rattle.bi_report.proofs.FoundConcerns.{concerns_in_both, concerns_in_each, only_concerns}

-- The hash nodes of the images that were read of a file, and the concerns about them, are those of its tree.

-- The hash nodes image by image.
hashes_by_image : (entries : List (Sibling FileNode)) (images : List ImageModel) →
    hashes_of_images (hashed_images entries images) ≡ file_verdicts entries images
hashes_by_image [] images = refl
hashes_by_image (entry ∷ entries) [] = refl
hashes_by_image (entry ∷ entries) (image ∷ images) = search (rules, hashes_by_image entries images)

pub hashes_of_tree : (content : FitModel) → hashes_of_images (images_of_blob content) ≡ verdicts_of (tree_of content)
hashes_of_tree content = hashes_by_image (siblings (file_images content.blob)) content.images ∙ sym (verdicts_are content)

-- A hash node is judged as in the tree,
judged_is : (image : Image) (hash : Sibling FileNode) →
    judged_hash image (sibling_by_name hash)
    ≡ judged_found (record { node = hash; checked = file_hash image.entry.name image.payload hash })
judged_is image hash = search (rules, option_and_then, get-by_name)

-- and so are those among children.
judged_are : (image : Image) (children : List (Sibling FileNode)) →
    map (judged_hash image) (filter (λ child. is_hash_name child.name) (map sibling_by_name children))
    ≡ map judged_found (found_hashes image.entry.name image.payload children)
judged_are image [] = refl
judged_are image (child ∷ later) = search (rules, judged_is, judged_are image later)

-- The concerns about an image that was read.
in_image : (entry : Sibling FileNode) (image : ImageModel) →
    concerns_in (found_in_image (hashed_image entry image))
    ≡ hashed_concerns entry.name image.payload (map judged_found (found_hashes entry.name image.payload (siblings entry.children)))
in_image entry image =
    let found = found_hashes entry.name image.payload (siblings entry.children) in
    let about_hash : (hash : FoundHash) → concerns_in (found_in_hash entry hash) ≡ hash_concerns (judged_found hash) =
    λ hash. only_concerns (HashOf entry hash.node) (hash_concerns (judged_found hash)) in
    concerns_in_both (flat_map (found_in_hash entry) found) _
    ∙ ap₂ (λ (a b : List Concern). a ++ b)
    (concerns_in_each (found_in_hash entry) (λ hash. hash_concerns (judged_found hash)) about_hash found
    ∙ sym (flat_map-map hash_concerns judged_found found))
    (only_concerns (NodeItself entry) _)

-- The concerns about images.
concerns_by_image : (entries : List (Sibling FileNode)) (images : List ImageModel) →
    concerns_in (flat_map found_in_image (hashed_images entries images))
    ≡ flat_map image_concerns (images_with (map bare_image entries) (map (λ (image : ImageModel). image.payload) images))
concerns_by_image [] images = refl
concerns_by_image (entry ∷ entries) [] = refl
concerns_by_image (entry ∷ entries) (image ∷ images) =
    let first : Image = record { entry = bare_image entry; payload = image.payload } in
    let same : judged_hashes first ≡ map judged_found (found_hashes entry.name image.payload (siblings entry.children)) =
    ap (λ children. map (judged_hash first) (filter (λ child. is_hash_name child.name) children)) (siblings-by_name entry.children)
    ∙ judged_are first (siblings entry.children) in
    concerns_in_both (found_in_image (hashed_image entry image)) (flat_map found_in_image (hashed_images entries images))
    ∙ ap₂ (λ (a b : List Concern). a ++ b) (in_image entry image ∙ ap (hashed_concerns entry.name image.payload) (sym same))
    (concerns_by_image entries images)

pub concerns_of_images : (content : FitModel) →
    concerns_in (flat_map found_in_image (images_of_blob content)) ≡ flat_map image_concerns (images_of (tree_of content))
concerns_of_images content = search (rules, concerns_by_image, image_siblings)
