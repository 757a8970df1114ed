use Rattle.std.proofs.Common.{◌≡◌, ℕ, List, [], ◌∷◌, ◌++◌, Option, codes, ap, ap₂, map, refl, subst, sym, ◌∙◌, rules}
use Rattle.std.specs.Prelude.{IsAscii}
use Rattle.std.specs.List.{AllByRecursion, AllZip}
use Rattle.bi_base.specs.Limits.{Limits}
use Rattle.bi_blob.specs.Blob.{totalsize}
use Rattle.bi_blob.specs.Lookups.{Sibling, siblings}
use Rattle.bi_blob.specs.Tree.{FileNode}
use Rattle.bi_fdt.specs.Content.{root_of}
use Rattle.bi_fit.specs.Content.{FitModel, ImageModel, IsHeld, IsReadImage, tree_of}
use Rattle.bi_fit.specs.HashNodes.{IsConfiguration, file_configurations, file_images}
use Rattle.bi_fit.specs.Judgement.{default_of}
use Rattle.bi_fit.specs.Payloads.{source_of}
use Rattle.bi_fit.specs.Reading.{IsReadFit}
use Rattle.bi_fit.proofs.FileConfigurations.{each_is_found}
use Rattle.bi_legacy.specs.Reading.{IsReadLegacy, LegacyModel}
use Rattle.bi_norm.specs.Meaning.{OfFit}
use Rattle.bi_norm.specs.Reading.{ForLegacyImage, NeedsMemory}
use Rattle.bi_norm.proofs.NormalForms.{needs_memory}
use Rattle.bi_common.specs.Json.{Json, json_array, json_line, json_object}
use Rattle.bi_common.proofs.PrintedTexts.{json_lines_are_ascii}
use Rattle.bi_report.specs.Checking.{Concern, allowed_by_default, concerns_member, kept_concerns}
use Rattle.bi_report.specs.FitListing.{ConfigurationEntry, PayloadEntry}
use Rattle.bi_report.specs.FoundConcerns.{FoundConcern, HasConcerns, concerns_in, found_in_fit, found_in_legacy}
use Rattle.bi_report.specs.ReadListing.{read_payload}
use Rattle.bi_report.specs.SignedTrees.{IsOverCheckBound}
use Rattle.bi_report.proofs.CheckedFiles.{legacy_has, tree_has}
use Rattle.bi_report.proofs.FitListings.{configuration_is_entry, payload_of}
use Rattle.bi_show.specs.ReadObjects.{read_configuration_object, read_fit_object, read_image_objects, read_legacy_object}
use Rattle.bi_show.specs.ReadObjects.{read_signature_objects}
use Rattle.bi_show.specs.ShownObjects.{AreShownConcerns, IsShownFit, IsShownObject, OfImageTree, OfLegacyImage}
use Rattle.bi_show.specs.ShownObjects.{configuration_object_with, shown_configuration_object, shown_fit_object}
use Rattle.bi_show.specs.ShownObjects.{shown_head_members, shown_image_object, shown_image_objects, shown_legacy_object}

-- The JSON of what was read from a file is that of the file.

-- ---- images

objects_of_images : (file : List ℕ) (entries : List (Sibling FileNode)) (images : List ImageModel) →
    AllZip (IsReadImage file) entries images →
    read_image_objects entries images ≡ shown_image_objects file entries (map (λ (image : ImageModel). image.payload) images)
objects_of_images file [] [] are = refl
objects_of_images file [] (image ∷ images) are = absurd are
objects_of_images file (entry ∷ entries) [] are = refl
objects_of_images file (entry ∷ entries) (image ∷ images) are =
    ap₂ (λ (first : Json) (later : List Json). first ∷ later)
    (ap (λ (listed : Option PayloadEntry). shown_image_object entry image.payload listed)
    (ap (λ place. read_payload place image.payload) are.0.place ∙ payload_of file (source_of entry.own) image.payload are.0.payload))
    (objects_of_images file entries images are.1)

-- ---- configurations

objects_of_configurations : (content : FitModel) → IsHeld content → (entries : List (Sibling FileNode)) →
    AllByRecursion (IsConfiguration content) entries →
    map (read_configuration_object content) entries
    ≡ map (shown_configuration_object content.blob.file (root_of content.blob) (tree_of content)) entries
objects_of_configurations content held [] are = refl
objects_of_configurations content held (entry ∷ later) are =
    ap₂ (λ (first : Json) (later : List Json). first ∷ later)
    (ap (λ (listed : ConfigurationEntry). configuration_object_with listed.keys (read_signature_objects content entry) entry)
    (configuration_is_entry content held entry are.0))
    (objects_of_configurations content held later are.1)

-- ---- whole images

-- The object of a flattened image tree with this size and these objects of its images and its configurations.
abbrev object_with : FitModel → List Concern → (size : ℕ) → (images configurations : List Json) → Json
object_with content concerns size images configurations =
    json_object
    (shown_head_members (root_of content.blob).own size content.blob.cpu (default_of (tree_of content))
    ++ (codes "images", json_array images)
    ∷ (codes "configurations", json_array configurations)
    ∷ concerns_member concerns ∷ [])

object_of_content : (content : FitModel) → IsHeld content → (concerns : List Concern) →
    object_with content concerns content.blob.total_size (read_image_objects (siblings (file_images content.blob)) content.images)
    (map (read_configuration_object content) (siblings (file_configurations content.blob)))
    ≡ shown_fit_object content.blob.file (root_of content.blob) (tree_of content) concerns
object_of_content content held concerns =
    ap (λ size. object_with content concerns size (read_image_objects (siblings (file_images content.blob)) content.images)
    (map (read_configuration_object content) (siblings (file_configurations content.blob)))) held.total_size
    ∙ ap₂ (object_with content concerns (totalsize content.blob.file))
    (objects_of_images content.blob.file (siblings (file_images content.blob)) content.images held.images)
    (objects_of_configurations content held (siblings (file_configurations content.blob)) (each_is_found content held))

object_of_file : (limits : Limits) (file : List ℕ) (content : FitModel) (is : IsReadFit limits file content) →
    read_fit_object file content
    ≡ shown_fit_object file is.means.is_file.root (tree_of content)
    (kept_concerns allowed_by_default (concerns_in (found_in_fit file content)))
object_of_file limits file content is =
    let concerns = kept_concerns allowed_by_default (concerns_in (found_in_fit file content)) in
    object_of_content content is.held concerns
    ∙ ap₂ (λ file root. shown_fit_object file root (tree_of content) concerns) is.is_file (sym is.same_root)

-- ---- files

-- The concerns that were found about a file are shown.
concerns_shown : (limits : Limits) (file : List ℕ) (found : List FoundConcern) → HasConcerns limits file found →
    AreShownConcerns limits file (kept_concerns allowed_by_default (concerns_in found))
concerns_shown limits file found has = record {
  meaning = has.meaning;
  means = has.means;
  within = has.within;
  concerns = concerns_in found;
  are_concerns = has.are_concerns;
  are_kept = refl;
}

pub legacy_shown : (limits : Limits) (file : List ℕ) (parsed : LegacyModel) → IsReadLegacy limits file parsed →
    IsShownObject limits file (json_line (read_legacy_object file parsed))
legacy_shown limits file parsed read = OfLegacyImage (record {
  parsed = parsed;
  is_read = read;
  concerns = kept_concerns allowed_by_default (concerns_in (found_in_legacy file parsed));
  are_concerns = concerns_shown limits file (found_in_legacy file parsed) (legacy_has limits file parsed read);
  is = refl;
})

pub fit_shown : (limits : Limits) (file : List ℕ) (content : FitModel) → IsReadFit limits file content →
    ¬ (IsOverCheckBound limits (OfFit (tree_of content))) → IsShownFit limits file (json_line (read_fit_object file content))
fit_shown limits file content is within = record {
  tree = tree_of content;
  means = is.means;
  concerns = kept_concerns allowed_by_default (concerns_in (found_in_fit file content));
  are_concerns = concerns_shown limits file (found_in_fit file content) (tree_has limits file content is within);
  is = ap json_line (object_of_file limits file content is);
}

-- A file that has a text may need memory, and the text is ASCII.
pub page_needs_memory : (limits : Limits) (file text : List ℕ) → IsShownObject limits file text → NeedsMemory limits file
page_needs_memory limits file text (OfLegacyImage is) = ForLegacyImage is.parsed.image is.is_read.means
page_needs_memory limits file text (OfImageTree is) = needs_memory limits file (OfFit is.tree) is.means

pub page_is_ascii : (limits : Limits) (file text : List ℕ) → IsShownObject limits file text → IsAscii text
page_is_ascii limits file text (OfLegacyImage is) =
    subst IsAscii (sym is.is) (json_lines_are_ascii (shown_legacy_object is.parsed is.concerns))
page_is_ascii limits file text (OfImageTree is) =
    subst IsAscii (sym is.is) (json_lines_are_ascii (shown_fit_object file is.means.is_file.root is.tree is.concerns))
