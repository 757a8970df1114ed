use Rattle.std.proofs.Common.{◌≡◌, ℕ, List, [], ◌∷◌, Option, Some, None, map, refl, sym, ap, ap₂, rules}
use Rattle.std.specs.List.{AllByRecursion, AllZip}
use Rattle.std.specs.Prelude.{option_map}
use Rattle.bi_base.specs.Limits.{Limits}
use Rattle.bi_blob.specs.Lookups.{Sibling, siblings}
use Rattle.bi_blob.specs.Tree.{Nodes, none, node, FileNode, names}
use Rattle.bi_fit.specs.declared.key.Key.{Key}
use Rattle.bi_fit.specs.Content.{FitModel, ImageModel, IsHeld, IsReadImage, place_of, tree_of}
use Rattle.bi_fit.specs.HashNodes.{IsConfiguration, file_listed}
use Rattle.bi_fit.specs.Judgement.{ListResult, configuration_nodes, listed_of}
use Rattle.bi_fit.specs.Names.{all_keys}
use Rattle.bi_fit.specs.Payloads.{PayloadSource, NoSource, Data, DataOffset, DataPosition, IsPayload}
use Rattle.bi_fit.specs.Reading.{IsReadFit}
use Rattle.bi_fit.proofs.FileConfigurations.{each_is_found, names_are}
use Rattle.bi_fit.proofs.FileLists.{listed_is}
use Rattle.bi_norm.specs.declared.image.BootImage.{BootImage}
use Rattle.bi_norm.specs.declared.image.BootImage.TheVariants.{Legacy, Fit}
use Rattle.bi_norm.specs.Reading.{IsReadBootImage}
use Rattle.bi_common.specs.declared.format.Format.{Format}
use Rattle.bi_report.specs.FitListing.{configuration_entry, fit_entries, fit_listing, fit_listing_object}
use Rattle.bi_report.specs.FitListing.{listed_image_entries, payload_entry}
use Rattle.bi_report.specs.ListedFiles.{IsListing, OfImageTree, OfLegacyImage, text_in}
use Rattle.bi_report.specs.ReadListing.{read_configuration, read_configurations, read_fit, read_image_entry, lines_of_listing, read_object}
use Rattle.bi_report.specs.ReadListing.{read_payload}

-- What is listed of a boot image that was read from a file is what is listed of the file.

-- ---- images

-- A payload.
pub payload_of : (file : List ℕ) (source : PayloadSource) (payload : Option (List ℕ)) → IsPayload file source payload →
    read_payload (place_of file source) payload ≡ option_map (payload_entry file source) payload
payload_of file NoSource None is = refl
payload_of file NoSource (Some payload) is = absurd cc
payload_of file (Data data_property) payload is = refl
payload_of file (DataOffset offset size) payload is = refl
payload_of file (DataPosition position size) payload is = refl

image_of : (file name : List ℕ) (source : PayloadSource) (image : ImageModel) → image.name ≡ name →
    IsPayload file source image.payload → image.place ≡ place_of file source →
    read_image_entry image ≡ record { name = name; payload = option_map (payload_entry file source) image.payload }
image_of file name source image named is placed = search (rules, payload_of)

images_of : (file : List ℕ) (nodes : Nodes FileNode) (images : List ImageModel) → AllZip (IsReadImage file) (siblings nodes) images →
    map read_image_entry images ≡ listed_image_entries file nodes (map (λ (image : ImageModel). image.payload) images)
images_of file none [] is = refl
images_of file none (image ∷ images) is = absurd is
images_of file (node name own children later) [] is = refl
images_of file (node name own children later) (image ∷ images) is = search (rules, image_of, images_of file later images is.1)

-- ---- configurations

-- What one lists.
pub configuration_is_entry : (content : FitModel) → IsHeld content → (entry : Sibling FileNode) → IsConfiguration content entry →
    read_configuration content.images entry ≡ configuration_entry (tree_of content) entry.name
configuration_is_entry content held entry is = ap (λ keys. record { name = entry.name; keys = keys }) (of_keys all_keys)
  where
    of_keys : (keys : List Key) → map {B = Key × ListResult} (λ key. (key, file_listed content.images entry key)) keys
        ≡ map {B = Key × ListResult} (λ key. (key, listed_of (tree_of content) entry.name key)) keys
    of_keys [] = refl
    of_keys (key ∷ later) =
        ap₂ (λ (listed : ListResult) (rest : List (Key × ListResult)). (key, listed) ∷ rest)
        (sym (listed_is content held entry.name entry key is.is_found)) (of_keys later)

configurations_in : (content : FitModel) → IsHeld content → (entries : List (Sibling FileNode)) →
    AllByRecursion (IsConfiguration content) entries →
    map (read_configuration content.images) entries ≡ map (configuration_entry (tree_of content)) (map (λ sibling. sibling.name) entries)
configurations_in content held [] are = refl
configurations_in content held (entry ∷ later) are = search (rules, configuration_is_entry, configurations_in content held later are.1)

configurations_of : (content : FitModel) → IsHeld content →
    read_configurations content ≡ map (configuration_entry (tree_of content)) (names (configuration_nodes (tree_of content)))
configurations_of content held = search (rules, configurations_in, each_is_found, names_are)

-- ---- files

entries_of_file : (limits : Limits) (file : List ℕ) (content : FitModel) (is : IsReadFit limits file content) →
    read_fit content ≡ fit_entries file is.means.is_file.images (tree_of content)
entries_of_file limits file content is = search (rules, images_of, configurations_of)

-- What was read of a file has the listing of the file.
pub listing_of_read : (format : Format) (limits : Limits) (file : List ℕ) (image : BootImage) → IsReadBootImage limits file image →
    IsListing format limits file (text_in format (lines_of_listing image) (read_object image))
listing_of_read format limits file (Legacy image) is = OfLegacyImage image is refl
listing_of_read format limits file (Fit content) is = OfImageTree (record {
  tree = tree_of content;
  means = is.means;
  is = ap (λ entries. text_in format (fit_listing entries) (fit_listing_object entries)) (entries_of_file limits file content is);
})
