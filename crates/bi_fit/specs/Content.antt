use Rattle.std.specs.Prelude.{◌≡◌, ℕ, ◌+◌, ◌≤◌, List, [], ◌∷◌, map, Option, Some, None, IsSome}
use Rattle.std.specs.Prelude.{option_map, length, bytes_eq, if◌then◌else◌}
use Rattle.std.specs.List.{AllByRecursion, AllZip}
use Rattle.std.specs.Ordering.{nat_cmp}
use Rattle.std.specs.Cmp.Lexicographic.{slice_cmp}
use Rattle.std.specs.BTreeMap.{BTreeMap, get_by}
use denote.Ref.{Bor}
use Rattle.bi_blob.specs.Tree.{FileNode, depth_of, tree_without_places, tree_without_order}
use Rattle.bi_blob.specs.Lookups.{Sibling, siblings, node_at, node_named}
use Rattle.bi_blob.specs.Blob.{IsBlob, totalsize}
use Rattle.bi_blob.specs.Layout.{longest_text}
use Rattle.bi_blob.specs.Following.{most_open_nodes}
use Rattle.bi_fdt.specs.Content.{Blob, root_of}
use Rattle.bi_fdt.specs.Views.{HasNodeAt, node_in}
use Rattle.bi_fit.specs.declared.image.Image.{Image}
use Rattle.bi_fit.specs.declared.image.Place.{Place}
use Rattle.bi_fit.specs.declared.image.Place.TheVariants as place
use Rattle.bi_fit.specs.Names.{images_name}
use Rattle.bi_fit.specs.ImageTree.{ImageTree, image_nodes, nodes_or_none, tree_without_payloads}
use Rattle.bi_fit.specs.Payloads.{PayloadSource, NoSource, Data, DataOffset, DataPosition}
use Rattle.bi_fit.specs.Payloads.{source_of, cell_number, external_base, HasPayload, IsAtPlace}

-- What a flattened image tree that was read holds.

-- An image node: its name, its payload, if it has one, and where that is in the file.
pub record ImageModel : Type 0 where
  pub name : List ℕ
  pub payload : Option (List ℕ)
  pub place : Place

-- The blob, and its image nodes in their order.
pub record FitModel : Type 0 where
  pub blob : Blob
  pub images : List ImageModel

-- An image, as the definitions see it.
abbrev pub image_model : Image → ImageModel
image_model image = record {
  name = image.name.now;
  payload = option_map (λ payload. payload.now) image.payload;
  place = image.place;
}

-- The image tree that it means.
abbrev pub tree_of : FitModel → ImageTree
tree_of content = record {
  cpu = content.blob.cpu;
  reservations = content.blob.reservations;
  root = tree_without_payloads (tree_without_order (tree_without_places (root_of content.blob)));
  payloads = map (λ image. image.payload) content.images;
}

-- Where the payload of a source is in a file.
abbrev pub place_of : List ℕ → PayloadSource → Place
place_of file NoSource = place.Absent
place_of file (Data data_property) = place.Data (data_property.place + 12)
place_of file (DataOffset offset size) = place.DataOffset (external_base file + cell_number offset)
place_of file (DataPosition position size) = place.DataPosition (cell_number position)

-- The image is read from an image node of a file.
pub record IsReadImage (file : List ℕ) (entry : Sibling FileNode) (image : ImageModel)
    : Type 0 where
  pub name : image.name ≡ entry.name
  pub payload : HasPayload file entry.own image.payload
  pub place : image.place ≡ place_of file (source_of entry.own)

-- The images are those of the blob, which has image nodes.
pub record IsHeld (content : FitModel) : Type 0 where
  pub is_blob : IsBlob content.blob.file content.blob.cpu content.blob.reservations
      (root_of content.blob)
  pub total_size : content.blob.total_size ≡ totalsize content.blob.file
  pub short : length content.blob.file ≤ longest_text
  pub shallow : depth_of (root_of content.blob) ≤ most_open_nodes
  pub has_images : IsSome (image_nodes (root_of content.blob))
  pub images : AllZip (IsReadImage content.blob.file)
      (siblings (nodes_or_none (image_nodes (root_of content.blob)))) content.images

-- The index of the first image with a name, if the first of these images has this index.
abbrev pub index_from : ℕ → List ℕ → List ImageModel → Option ℕ
index_from index name [] = None
index_from index name (image ∷ later) =
    if bytes_eq image.name name then Some index else index_from (index + 1) name later

-- The index of the image with a name.
abbrev pub index_of : List ℕ → List ImageModel → Option ℕ
index_of name images = index_from 0 name images

-- A map has the index of the first image with each name.
pub record HasIndices (indices : BTreeMap (Bor (List ℕ)) ℕ) (images : List ImageModel)
    : Type 0 where
  pub each : (name : List ℕ) → get_by (λ other. slice_cmp nat_cmp name other.now) indices
      ≡ index_of name images

-- The node at an index of the table of a blob is the child `images` of the root.
pub record HasImagesAt (blob : Blob) (index : ℕ) : Type 0 where
  pub there : HasNodeAt blob.table index
  pub is_images : Some (node_in blob.table index) ≡ node_named (root_of blob).children images_name

-- The child `images` of the root is at this position among its children, counted from 0.
abbrev pub IsImagesPosition : Blob → (position : ℕ) → Type 0
IsImagesPosition blob position =
    node_at (root_of blob).children position ≡ node_named (root_of blob).children images_name

-- The place of the image at an index, if there is one.
abbrev pub place_or_absent : Option ImageModel → Place
place_or_absent None = place.Absent
place_or_absent (Some image) = image.place

-- The offset of a place, if there is a payload.
abbrev pub offset_of_place : Place → Option ℕ
offset_of_place place.Absent = None
offset_of_place (place.Data offset) = Some offset
offset_of_place (place.DataOffset offset) = Some offset
offset_of_place (place.DataPosition offset) = Some offset

-- The payload of an image is in the file at its place, or there is neither.
abbrev pub IsAtItsPlace : List ℕ → ImageModel → Type 0
IsAtItsPlace file image = IsAtPlace file (offset_of_place image.place) image.payload

-- The payload of each image is in the file at its place.
abbrev pub AreAtTheirPlaces : List ℕ → List ImageModel → Type 0
AreAtTheirPlaces file images = AllByRecursion (IsAtItsPlace file) images

-- So are those of a flattened image tree.
abbrev pub ArePlaced : FitModel → Type 0
ArePlaced content = AreAtTheirPlaces content.blob.file content.images

-- The payloads of images, by their order.
abbrev pub payloads_of_models : List ImageModel → List (Option (List ℕ))
payloads_of_models images = map (λ image. image.payload) images
