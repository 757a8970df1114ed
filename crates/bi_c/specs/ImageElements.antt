use Rattle.std.specs.Prelude.{ℕ, ◌≡◌, List, [], ◌∷◌, length, Option, None, Some, unwrap_or, ⊤}
use Rattle.bi_base.specs.Limits.{IsInRange}
use Rattle.bi_blob.specs.Lookups.{Sibling, siblings}
use Rattle.bi_blob.specs.Tree.{FileNode}
use Rattle.bi_fit.specs.declared.image.Place.{Place}
use Rattle.bi_fit.specs.declared.image.Place.TheVariants as place
use Rattle.bi_fit.specs.File.{FitMeans}
use Rattle.bi_fit.specs.ImageTree.{ImageTree}
use Rattle.bi_fit.specs.Payloads.{PayloadSource, NoSource, Data, DataOffset, DataPosition}
use Rattle.bi_fit.specs.Payloads.{source_of, payload_place}
use Rattle.bi_c.specs.Arguments.{bounds}
use Rattle.bi_c.specs.TreeRegions.{AreBytesAt, node_name_region}
use Rattle.bi_c.specs.declared.images.ImageElement.{ImageElement}
use Rattle.bi_c.specs.declared.region.Region.{Region}

-- The images of a flattened image tree, as a call from C returns them (profile of this project).

-- The number of what places a payload.
abbrev pub source_number : PayloadSource → ℕ
source_number NoSource = 0
source_number (Data data_property) = 1
source_number (DataOffset offset size) = 2
source_number (DataPosition position size) = 3

-- The same by the place of an image that was read.
abbrev pub place_number : Place → ℕ
place_number place.Absent = 0
place_number (place.Data offset) = 1
place_number (place.DataOffset offset) = 2
place_number (place.DataPosition offset) = 3

-- Where a payload is. If there is none, both numbers are 0.
abbrev pub image_payload_region : (place : Option ℕ) → (payload : Option (List ℕ)) → Region
image_payload_region place payload = record {
  offset = unwrap_or place 0;
  size = length (unwrap_or payload []);
}

-- The element of an image node of a file with this payload.
abbrev pub element_of_image : (file : List ℕ) → Sibling FileNode → Option (List ℕ) → ImageElement
element_of_image file image payload = record {
  name = node_name_region image.own image.name;
  payload = image_payload_region (payload_place file (source_of image.own)) payload;
  place = source_number (source_of image.own);
}

-- The elements of image nodes with these payloads.
abbrev pub image_elements : (file : List ℕ) → List (Sibling FileNode) → List (Option (List ℕ))
    → List ImageElement
image_elements file (image ∷ later) (payload ∷ payloads) =
    element_of_image file image payload ∷ image_elements file later payloads
image_elements file images payloads = []

-- The region has the bytes of the payload, if there is one.
abbrev pub HasPayloadBytes : (file : List ℕ) → Region → Option (List ℕ) → Type 0
HasPayloadBytes file region None = ⊤
HasPayloadBytes file region (Some payload) = AreBytesAt file region payload

-- The regions of the elements have the names and the payloads of the images.
abbrev pub HaveImageBytes : (file : List ℕ) → List (Sibling FileNode) → List (Option (List ℕ))
    → Type 0
HaveImageBytes file (image ∷ later) (payload ∷ payloads) =
    let element = element_of_image file image payload in
    AreBytesAt file element.name image.name × HasPayloadBytes file element.payload payload
    × HaveImageBytes file later payloads
HaveImageBytes file images payloads = ⊤

-- The elements are those of the images of the flattened image tree that the file means, in their
-- order, and their regions have the names and the payloads of the images.
pub record AreImageElements (limit depth : ℕ) (file : List ℕ) (elements : List ImageElement)
    (value : ℕ) : Type 0
  where
    pub limits : IsInRange limit depth
    pub tree : ImageTree
    pub means : FitMeans (bounds limit depth) file tree
    pub are_elements :
        elements ≡ image_elements file (siblings means.is_file.images) tree.payloads
    pub have_bytes : HaveImageBytes file (siblings means.is_file.images) tree.payloads
    pub no_value : value ≡ 0
