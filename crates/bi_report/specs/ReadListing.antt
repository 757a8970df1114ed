use Rattle.std.specs.Prelude.{ℕ, List, Option, None, length, map, option_map}
use Rattle.bi_blob.specs.Lookups.{Sibling, siblings}
use Rattle.bi_blob.specs.Tree.{FileNode}
use Rattle.bi_fit.specs.declared.image.Place.{Place}
use Rattle.bi_fit.specs.declared.image.Place.TheVariants.{Absent, Data, DataOffset, DataPosition}
use Rattle.bi_fit.specs.Content.{FitModel, ImageModel, tree_of}
use Rattle.bi_fit.specs.HashNodes.{file_configurations, file_listed}
use Rattle.bi_fit.specs.Judgement.{default_of}
use Rattle.bi_fit.specs.Names.{all_keys, data_name, data_offset_name, data_position_name}
use Rattle.bi_norm.specs.declared.image.BootImage.{BootImage}
use Rattle.bi_norm.specs.declared.image.BootImage.TheVariants.{Legacy, Fit}
use Rattle.bi_common.specs.Json.{Json}
use Rattle.bi_common.specs.Lines.{Line}
use Rattle.bi_report.specs.FitListing.{ConfigurationEntry, FitEntries, ImageEntry, PayloadEntry}
use Rattle.bi_report.specs.FitListing.{fit_listing, fit_listing_object}
use Rattle.bi_report.specs.Listing.{legacy_listing, legacy_listing_object}

-- What is listed of a boot image that was read.

-- A payload that a property gives.
abbrev pub placed_entry : (property : List ℕ) → (offset : ℕ) → (payload : List ℕ) → PayloadEntry
placed_entry property offset payload =
    record { property = property; offset = offset; size = length payload }

-- The payload of an image, by where it is.
abbrev pub read_payload : Place → Option (List ℕ) → Option PayloadEntry
read_payload Absent payload = None
read_payload (Data offset) payload = option_map (placed_entry data_name offset) payload
read_payload (DataOffset offset) payload =
    option_map (placed_entry data_offset_name offset) payload
read_payload (DataPosition offset) payload =
    option_map (placed_entry data_position_name offset) payload

abbrev pub read_image_entry : ImageModel → ImageEntry
read_image_entry image =
    record { name = image.name; payload = read_payload image.place image.payload }

-- A configuration node of a file with these images.
abbrev pub read_configuration : List ImageModel → Sibling FileNode → ConfigurationEntry
read_configuration images entry =
    record { name = entry.name; keys = map (λ key. (key, file_listed images entry key)) all_keys }

abbrev pub read_configurations : FitModel → List ConfigurationEntry
read_configurations content =
    map (read_configuration content.images) (siblings (file_configurations content.blob))

abbrev pub read_fit : FitModel → FitEntries
read_fit content = record {
  cpu = content.blob.cpu;
  total_size = content.blob.total_size;
  reservations = content.blob.reservations;
  images = map read_image_entry content.images;
  configurations = read_configurations content;
  default_name = default_of (tree_of content);
}

-- The lines and the JSON of a boot image.
abbrev pub lines_of_listing : BootImage → List Line
lines_of_listing (Legacy image) = legacy_listing image
lines_of_listing (Fit content) = fit_listing (read_fit content)

abbrev pub read_object : BootImage → Json
read_object (Legacy image) = legacy_listing_object image
read_object (Fit content) = fit_listing_object (read_fit content)
