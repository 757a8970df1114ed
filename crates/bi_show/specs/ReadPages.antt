use Rattle.std.specs.Prelude.{ℕ, ◌+◌, List, [], ◌∷◌, ◌++◌, map}
use Rattle.bi_blob.specs.Lookups.{Sibling}
use Rattle.bi_blob.specs.Tree.{FileNode}
use Rattle.bi_fit.specs.Content.{FitModel, ImageModel, offset_of_place}
use Rattle.bi_show.specs.declared.show.layout.LayoutRegion.{LayoutRegion}
use Rattle.bi_show.specs.FitPages.{image_row}
use Rattle.bi_show.specs.Layouts.{blob_regions, region_of_payload}
use Rattle.bi_show.specs.Pages.{Table}

-- The rows of the page of a FIT that was read.

-- The row of an image that was read.
abbrev pub read_image_row : Sibling FileNode → ImageModel → List (List ℕ)
read_image_row entry image = image_row entry image.payload (offset_of_place image.place)

-- The rows of images that were read.
abbrev pub read_image_rows : List (Sibling FileNode) → List ImageModel → Table
read_image_rows (entry ∷ entries) (image ∷ images) =
    read_image_row entry image ∷ read_image_rows entries images
read_image_rows entries images = []

-- The names of images that were read.
abbrev pub read_image_names : List ImageModel → List (List ℕ)
read_image_names images = map (λ image. image.name) images

-- The regions of the payloads of images that were read. The first image has this index.
abbrev pub read_payload_regions : (index : ℕ) → List ImageModel → List LayoutRegion
read_payload_regions index [] = []
read_payload_regions index (image ∷ images) =
    region_of_payload index image.payload (offset_of_place image.place)
    ++ read_payload_regions (index + 1) images

-- The regions of a FIT that was read.
abbrev pub read_regions : FitModel → List LayoutRegion
read_regions content =
    blob_regions content.blob.file content.blob.reservations
    ++ read_payload_regions 0 content.images
