use Rattle.std.specs.Prelude.{ℕ, List, [], ◌∷◌, ◌++◌, codes, map}
use Rattle.bi_blob.specs.Lookups.{Sibling, siblings}
use Rattle.bi_blob.specs.Tree.{FileNode}
use Rattle.bi_fdt.specs.Content.{root_of}
use Rattle.bi_fit.specs.Content.{FitModel, ImageModel, tree_of}
use Rattle.bi_fit.specs.HashNodes.{file_configurations, file_images}
use Rattle.bi_fit.specs.Judgement.{default_of}
use Rattle.bi_legacy.specs.Reading.{LegacyModel}
use Rattle.bi_common.specs.Json.{Json, Member, json_array, json_object}
use Rattle.bi_report.specs.Checking.{allowed_by_default, concerns_member, kept_concerns}
use Rattle.bi_report.specs.FoundConcerns.{concerns_in, found_in_fit, found_in_legacy}
use Rattle.bi_report.specs.ReadListing.{read_configuration, read_image_entry}
use Rattle.bi_show.specs.ShownObjects.{configuration_object_with, shown_head_members}
use Rattle.bi_show.specs.ShownObjects.{shown_image_object, shown_legacy_object}
use Rattle.bi_show.specs.ShownObjects.{signature_objects}

-- The JSON of a boot image that was read.

-- An image that was read.
abbrev pub read_image_object : Sibling FileNode → ImageModel → Json
read_image_object entry image =
    shown_image_object entry image.payload (read_image_entry image).payload

abbrev pub read_image_objects : List (Sibling FileNode) → List ImageModel → List Json
read_image_objects (entry ∷ entries) (image ∷ images) =
    read_image_object entry image ∷ read_image_objects entries images
read_image_objects entries images = []

abbrev pub read_images_member : FitModel → Member
read_images_member content = (
  codes "images",
  json_array (read_image_objects (siblings (file_images content.blob)) content.images),
)

-- The objects of the signed nodes of a configuration node of a file.
abbrev pub read_signature_objects : FitModel → Sibling FileNode → List Json
read_signature_objects content configuration =
    signature_objects content.blob.file (root_of content.blob) (tree_of content) configuration

-- The object of such a node.
abbrev pub read_configuration_object : FitModel → Sibling FileNode → Json
read_configuration_object content configuration =
    configuration_object_with (read_configuration content.images configuration).keys
    (read_signature_objects content configuration) configuration

abbrev pub read_configurations_member : FitModel → Member
read_configurations_member content = (
  codes "configurations",
  json_array (map (read_configuration_object content)
      (siblings (file_configurations content.blob))),
)

-- The members for the head of a flattened image tree.
abbrev pub read_head_members : FitModel → List Member
read_head_members content =
    shown_head_members (root_of content.blob).own content.blob.total_size content.blob.cpu
    (default_of (tree_of content))

-- A flattened image tree that was read from this file.
abbrev pub read_fit_object : (file : List ℕ) → FitModel → Json
read_fit_object file content =
    json_object
    (read_head_members content
    ++ read_images_member content
    ∷ read_configurations_member content
    ∷ concerns_member
    (kept_concerns allowed_by_default (concerns_in (found_in_fit file content))) ∷ [])

-- A legacy image that was read from this file.
abbrev pub read_legacy_object : (file : List ℕ) → LegacyModel → Json
read_legacy_object file parsed =
    shown_legacy_object parsed
    (kept_concerns allowed_by_default (concerns_in (found_in_legacy file parsed)))
