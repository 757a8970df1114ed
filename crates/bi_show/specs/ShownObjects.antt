use Rattle.std.specs.Prelude.{◌≡◌, ℕ, ◌==◌, ◌&&◌, Bool, true, false, List, [], ◌∷◌, ◌++◌}
use Rattle.std.specs.Prelude.{Option, None, Some, codes, filter, length, map, option_map}
use Rattle.std.specs.Prelude.{if◌then◌else◌}
use Rattle.std.specs.Option.{option_and_then}
use Rattle.bi_base.specs.Cells.{u32_at, u64_at}
use Rattle.bi_base.specs.Commands.{CommandPromise, PromiseLaws, unit_promise, unit_laws}
use Rattle.bi_base.specs.declared.fault.Error.{Error}
use Rattle.bi_base.specs.Limits.{Limits}
use Rattle.bi_base.specs.Strings.{text_before_nul}
use Rattle.bi_blob.specs.Blob.{totalsize}
use Rattle.bi_blob.specs.Lookups.{Sibling, siblings}
use Rattle.bi_blob.specs.Tree.{FileNode, Root}
use Rattle.bi_coverage.specs.Coverage.{SignatureConcern}
use Rattle.bi_coverage.specs.Values.{meaning_of_sibling}
use Rattle.bi_fit.specs.declared.key.Key.{Key}
use Rattle.bi_fit.specs.File.{FitMeans}
use Rattle.bi_fit.specs.ImageTree.{ImageTree}
use Rattle.bi_fit.specs.Judgement.{ListResult, default_of, listed_names}
use Rattle.bi_fit.specs.Names.{algo_name, is_signature_name, timestamp_name}
use Rattle.bi_fit.specs.Payloads.{source_of}
use Rattle.bi_legacy.specs.Codes.{compression_names}
use Rattle.bi_legacy.specs.Meaning.{LegacyImage}
use Rattle.bi_legacy.specs.Reading.{LegacyModel, IsReadLegacy}
use Rattle.bi_norm.specs.Comparing.{MeansOnly}
use Rattle.bi_norm.specs.Meaning.{Meaning}
use Rattle.bi_common.specs.CommonLines.{code_member, name_member}
use Rattle.bi_common.specs.HashedImages.{FoundHash, found_hashes}
use Rattle.bi_common.specs.Json.{Json, Member, json_array, json_bool, json_line, json_null}
use Rattle.bi_common.specs.Json.{json_number, json_object, json_string, string_or_null}
use Rattle.bi_common.specs.Shown.{shown_text}
use Rattle.bi_common.specs.ValueTexts.{are_quotable_texts}
use Rattle.bi_report.specs.CheckedFiles.{IsCheckError}
use Rattle.bi_report.specs.Checking.{AreConcerns, Concern, allowed_by_default, concerns_member}
use Rattle.bi_report.specs.Checking.{kept_concerns}
use Rattle.bi_report.specs.Details.{name_json}
use Rattle.bi_report.specs.FitListing.{PayloadEntry, configuration_entry}
use Rattle.bi_report.specs.FitListing.{keys_member, payload_entry, payload_member}
use Rattle.bi_report.specs.FoundConcerns.{is_skipped}
use Rattle.bi_report.specs.Listing.{parts_member}
use Rattle.bi_report.specs.Reports.{verdict_word}
use Rattle.bi_report.specs.SignedTrees.{IsOverCheckBound, signature_coverage_in}
use Rattle.bi_show.specs.AllCodes.{given_arch_names, given_os_names, given_type_names}
use Rattle.bi_show.specs.FitPages.{configurations_below, has_signature, images_below, value_in}

-- The page of a boot image as JSON (profile of this project).

-- ---- the values of properties

-- The texts of a value, each of which is printed in quotes: none, if it is not such texts.
abbrev pub texts_in : (value : List ℕ) → List (List ℕ)
texts_in value = if are_quotable_texts value then listed_names value else []

-- The text, if there is exactly one.
abbrev pub only_text : (texts : List (List ℕ)) → Option (List ℕ)
only_text (text ∷ []) = Some text
only_text texts = None

-- The text of a value that is exactly one text.
abbrev pub text_in_value : (value : List ℕ) → Option (List ℕ)
text_in_value value = only_text (texts_in value)

-- The number that a value of one cell or two has.
abbrev pub number_in_value : (value : List ℕ) → Option ℕ
number_in_value value =
    if length value == 4 then Some (u32_at value 0) else
    if length value == 8 then Some (u64_at value 0) else None

-- A number, or `null` if there is none.
abbrev pub number_or_null : Option ℕ → Json
number_or_null None = json_null
number_or_null (Some number) = json_number number

-- The text in a value that may not be there, the number in one, and the name before the first zero
-- byte in one: `null` if there is none.
abbrev pub value_of_text : (value : Option (List ℕ)) → Json
value_of_text value = string_or_null (option_and_then text_in_value value)

abbrev pub value_of_number : (value : Option (List ℕ)) → Json
value_of_number value = number_or_null (option_and_then number_in_value value)

abbrev pub name_value : (value : Option (List ℕ)) → Json
name_value value = name_json (option_and_then text_before_nul value)

-- The member with the name of a property, for the text or the number that a node has in it.
abbrev pub text_property : FileNode → (name : List ℕ) → Member
text_property own name = (name, value_of_text (value_in own name))

abbrev pub number_property : FileNode → (name : List ℕ) → Member
number_property own name = (name, value_of_number (value_in own name))

-- The texts in a value that may not be there.
abbrev pub texts_or_none : Option (List ℕ) → List (List ℕ)
texts_or_none None = []
texts_or_none (Some value) = texts_in value

-- The member for what a configuration is compatible with.
abbrev pub texts_member : FileNode → Member
texts_member own = (
  codes "compatible",
  json_array (map json_string (texts_or_none (value_in own (codes "compatible")))),
)

-- ---- images

-- A hash node with its verdict. U-Boot skips it, or does not.
abbrev pub shown_hash_object : FoundHash → Json
shown_hash_object hash =
    json_object
    (name_member (codes "node") hash.checked.node_name
    ∷ (codes "algorithm", name_json hash.checked.algo)
    ∷ (codes "verdict", json_string (verdict_word hash.checked.verdict))
    ∷ (codes "skipped", json_bool (is_skipped hash.node)) ∷ [])

-- The member for the hash nodes of an image.
abbrev pub hashes_member : List FoundHash → Member
hashes_member hashes = (codes "hashes", json_array (map shown_hash_object hashes))

-- The members for the texts and the addresses in an image node.
abbrev pub image_members : Sibling FileNode → List Member
image_members entry =
    name_member (codes "name") entry.name
    ∷ text_property entry.own (codes "description")
    ∷ text_property entry.own (codes "type")
    ∷ text_property entry.own (codes "os")
    ∷ text_property entry.own (codes "arch")
    ∷ text_property entry.own (codes "compression")
    ∷ number_property entry.own (codes "load")
    ∷ number_property entry.own (codes "entry") ∷ []

-- An image with this payload, which is listed so.
abbrev pub shown_image_object : Sibling FileNode → (payload : Option (List ℕ))
    → Option PayloadEntry → Json
shown_image_object entry payload listed =
    json_object
    (image_members entry
    ++ payload_member listed
    ∷ hashes_member (found_hashes entry.name payload (siblings entry.children)) ∷ [])

-- The objects of image nodes of a file, with these payloads.
abbrev pub shown_image_objects : (file : List ℕ) → List (Sibling FileNode)
    → List (Option (List ℕ)) → List Json
shown_image_objects file (entry ∷ entries) (payload ∷ payloads) =
    shown_image_object entry payload (option_map (payload_entry file (source_of entry.own)) payload)
    ∷ shown_image_objects file entries payloads
shown_image_objects file entries payloads = []

-- ---- configurations

-- The signed nodes of a configuration: each child whose name begins with `signature`, and that has
-- a property `value` that is not empty.
abbrev pub is_signed_node : Sibling FileNode → Bool
is_signed_node child = is_signature_name child.name && has_signature child

abbrev pub signed_children : (configuration : Sibling FileNode) → List (Sibling FileNode)
signed_children configuration = filter is_signed_node (siblings configuration.children)

-- Whether there is no concern about a signature.
abbrev pub has_no_concern : List SignatureConcern → Bool
has_no_concern [] = true
has_no_concern (first ∷ later) = false

-- A signed node, and whether it covers all of its configuration.
abbrev pub signature_object : Sibling FileNode → (is_covering : Bool) → Json
signature_object signature is_covering =
    json_object
    (name_member (codes "node") signature.name
    ∷ (codes "algorithm", name_value (value_in signature.own algo_name))
    ∷ (codes "key", name_value (value_in signature.own (codes "key-name-hint")))
    ∷ (codes "covered", json_bool is_covering) ∷ [])

-- The object of a signed node of a configuration of a file. The blob of the file has this root, and
-- it means this tree.
abbrev pub signed_node_object : (file : List ℕ) → Root FileNode → ImageTree
    → (configuration signature : Sibling FileNode) → Json
signed_node_object file root tree configuration signature =
    let coverage = signature_coverage_in file root tree (meaning_of_sibling configuration)
    (meaning_of_sibling signature) in
    signature_object signature (has_no_concern coverage.concerns)

-- The objects of all of them.
abbrev pub signature_objects : (file : List ℕ) → Root FileNode → ImageTree
    → (configuration : Sibling FileNode) → List Json
signature_objects file root tree configuration =
    map (signed_node_object file root tree configuration) (signed_children configuration)

-- A configuration, of which this is listed, and which has these objects of its signed nodes.
abbrev pub configuration_object_with : List (Key × ListResult) → (signatures : List Json)
    → Sibling FileNode → Json
configuration_object_with keys signatures configuration =
    json_object
    (name_member (codes "name") configuration.name
    ∷ text_property configuration.own (codes "description")
    ∷ texts_member configuration.own
    ∷ keys_member keys
    ∷ (codes "signatures", json_array signatures) ∷ [])

-- The object of a configuration node of such a file.
abbrev pub shown_configuration_object : (file : List ℕ) → Root FileNode → ImageTree
    → Sibling FileNode → Json
shown_configuration_object file root tree configuration =
    configuration_object_with (configuration_entry tree configuration.name).keys
    (signature_objects file root tree configuration) configuration

-- ---- whole images

-- The members for what the root says, the size of the blob, the boot processor and the default
-- configuration.
abbrev pub shown_head_members : FileNode → (size cpu : ℕ) → (default : Option (List ℕ))
    → List Member
shown_head_members own size cpu default =
    (codes "kind", json_string (codes "fit"))
    ∷ text_property own (codes "description")
    ∷ number_property own timestamp_name
    ∷ (codes "size", json_number size)
    ∷ (codes "boot_cpu", json_number cpu)
    ∷ (codes "default", string_or_null (option_map shown_text default)) ∷ []

-- A flattened image tree that a file whose blob has this root means, with these concerns.
abbrev pub shown_fit_object : (file : List ℕ) → Root FileNode → ImageTree → List Concern → Json
shown_fit_object file root tree concerns =
    json_object
    (shown_head_members root.own (totalsize file) tree.cpu (default_of tree)
    ++ (codes "images", json_array (shown_image_objects file (images_below root) tree.payloads))
    ∷ (
      codes "configurations",
      json_array
          (map (shown_configuration_object file root tree) (configurations_below root)),
    )
    ∷ concerns_member concerns ∷ [])

-- The members for the fields of a header. Each code has a name that can be given, if it has one.
abbrev pub shown_legacy_members : LegacyImage → List Member
shown_legacy_members image =
    (codes "kind", json_string (codes "legacy"))
    ∷ name_member (codes "name") image.name
    ∷ (codes "time", json_number image.time)
    ∷ (codes "load", json_number image.load)
    ∷ (codes "entry", json_number image.entry)
    ∷ code_member (codes "os") given_os_names image.os
    ∷ code_member (codes "arch") given_arch_names image.arch
    ∷ code_member (codes "type") given_type_names image.image_type
    ∷ code_member (codes "compression") compression_names image.compression ∷ []

-- A legacy image that was read, with these concerns.
abbrev pub shown_legacy_object : LegacyModel → List Concern → Json
shown_legacy_object parsed concerns =
    json_object
    (shown_legacy_members parsed.image
    ++ parts_member parsed.image
    ∷ (codes "unused", json_number parsed.unused)
    ∷ concerns_member concerns ∷ [])

-- ---- files

-- These are the concerns about a file that `check` writes without options. The file means something
-- and nothing else, and its payloads and its needed paths are within their bounds.
pub record AreShownConcerns (limits : Limits) (file : List ℕ) (shown : List Concern) : Type 0 where
  pub meaning : Meaning
  pub means : MeansOnly limits file meaning
  pub within : ¬ (IsOverCheckBound limits meaning)
  pub concerns : List Concern
  pub are_concerns : AreConcerns limits file concerns
  pub are_kept : shown ≡ kept_concerns allowed_by_default concerns

-- The text is the JSON of a legacy image that was read from the file.
pub record IsShownLegacy (limits : Limits) (file text : List ℕ) : Type 0 where
  pub parsed : LegacyModel
  pub is_read : IsReadLegacy limits file parsed
  pub concerns : List Concern
  pub are_concerns : AreShownConcerns limits file concerns
  pub is : text ≡ json_line (shown_legacy_object parsed concerns)

-- The text is the JSON of a flattened image tree.
pub record IsShownFit (limits : Limits) (file text : List ℕ) : Type 0 where
  pub tree : ImageTree
  pub means : FitMeans limits file tree
  pub concerns : List Concern
  pub are_concerns : AreShownConcerns limits file concerns
  pub is : text ≡ json_line (shown_fit_object file means.is_file.root tree concerns)

-- The text is the JSON of the file, which is a legacy image or a flattened image tree.
pub data IsShownObject (limits : Limits) (file text : List ℕ) : Type 0 where
  OfLegacyImage : IsShownLegacy limits file text → IsShownObject limits file text
  OfImageTree : IsShownFit limits file text → IsShownObject limits file text

-- What showing as JSON promises as a command. It has the errors of checking.
abbrev pub show_json_promise : Limits → CommandPromise (Unit {0}) Error
show_json_promise limits = unit_promise (IsShownObject limits) (IsCheckError limits)

pub show_json_laws : (limits : Limits) → PromiseLaws (show_json_promise limits)
show_json_laws limits =
    unit_laws (IsShownObject limits) (IsCheckError limits) (λ input is. is) (λ input is. is)
