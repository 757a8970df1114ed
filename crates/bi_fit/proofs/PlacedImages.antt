use Rattle.std.proofs.Common.{◌≡◌, ℕ, List, [], ◌∷◌, Option, refl, sym, ap, subst, ◌∙◌}
use Rattle.std.specs.List.{AllZip, AllByRecursion}
use Rattle.bi_blob.specs.Tree.{Nodes, none, node, FileNode}
use Rattle.bi_blob.specs.Lookups.{siblings}
use Rattle.bi_fdt.specs.Content.{root_of}
use Rattle.bi_fit.specs.declared.image.Place.{Place}
use Rattle.bi_fit.specs.Content.{FitModel, ImageModel, IsReadImage, IsHeld, place_of, offset_of_place, IsAtItsPlace, ArePlaced}
use Rattle.bi_fit.specs.Content.{payloads_of_models}
use Rattle.bi_fit.specs.ImageTree.{each_own, image_nodes, nodes_or_none}
use Rattle.bi_fit.specs.Payloads.{PayloadSource, NoSource, Data, DataOffset, DataPosition, source_of, payload_place, IsAtPlace}
use Rattle.bi_fit.proofs.FilePayloads.{image_values, images_places}
use Rattle.bi_fit.proofs.ReadBlobs.{read_payloads}
use Rattle.bi_fit.proofs.NormalTrees.{some_nodes}

-- The payloads of images that were read are in the file at their places.

-- The offset of the place of a source is where its payload is.
offset_of_source : (file : List ℕ) (source : PayloadSource) → offset_of_place (place_of file source) ≡ payload_place file source
offset_of_source file NoSource = refl
offset_of_source file (Data property) = refl
offset_of_source file (DataOffset offset size) = refl
offset_of_source file (DataPosition position size) = refl

-- Images are read from nodes whose payloads are at their places, so those of the images are.
placed_images : (file : List ℕ) (nodes : Nodes FileNode) (images : List ImageModel) → AllZip (IsReadImage file) (siblings nodes) images
    → AllZip (λ own payload. IsAtPlace file (payload_place file (source_of own)) payload) (each_own nodes) (payloads_of_models images)
    → AllByRecursion (IsAtItsPlace file) images
placed_images file none [] read there = tt
placed_images file none (image ∷ images) read there = absurd read
placed_images file (node name own children later) [] read there = absurd read
placed_images file (node name own children later) (image ∷ images) read there = (
  subst (λ (place : Option ℕ). IsAtPlace file place image.payload)
      (sym (ap (λ (place : Place). offset_of_place place) read.0.place ∙ offset_of_source file (source_of own))) there.0,
  placed_images file later images read.1 there.1,
)

-- The payload of each image of a tree that was read is in its file at its place.
pub are_placed : (content : FitModel) → IsHeld content → ArePlaced content
are_placed content held =
    let root = root_of content.blob in
    let nodes = nodes_or_none (image_nodes root) in
    let values = image_values content.blob.file content.blob.cpu content.blob.reservations root nodes held.is_blob
    (some_nodes (image_nodes root) held.has_images) in
    placed_images content.blob.file nodes content.images held.images
    (images_places content.blob.file nodes (payloads_of_models content.images) values
    (read_payloads content.blob.file nodes content.images held.images))
