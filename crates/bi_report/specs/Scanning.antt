use Rattle.std.specs.Prelude.{ℕ, ◌≡◌, ◌≢◌, ◌⊎◌, ◌↔◌, ◌+◌, ◌<◌, ◌≤◌, Bool, true, false, IsTrue}
use Rattle.std.specs.Prelude.{List, [], ◌∷◌, length, codes, flat_map, map}
use Rattle.std.specs.List.{AllZip, range_with_len, sum}
use Rattle.bi_base.specs.declared.fault.Error.{Error}
use Rattle.bi_base.specs.declared.fault.Fault.{Fault}
use Rattle.bi_base.specs.Cells.{u32_at}
use Rattle.bi_base.specs.Checks.{HasNoFault}
use Rattle.bi_base.specs.Commands.{CommandPromise, PromiseLaws}
use Rattle.bi_base.specs.Errors.{FailsWith}
use Rattle.bi_base.specs.Limits.{Limits, widest}
use Rattle.bi_base.specs.Reading.{too_large}
use Rattle.bi_blob.specs.Blob.{totalsize}
use Rattle.bi_blob.specs.BlobFaults.{HeaderCheck, HeaderPasses, HasHeader, HasVersion}
use Rattle.bi_blob.specs.BlobFaults.{HasCompatibleVersion, TotalHoldsHeader, FileHoldsTotal}
use Rattle.bi_blob.specs.BlobFaults.{PlacesReservations, PlacesStructure, PlacesStrings}
use Rattle.bi_fit.specs.File.{FitMeans}
use Rattle.bi_legacy.specs.Faults as legacy
use Rattle.bi_norm.specs.declared.kind.Kind.TheVariants as kind
use Rattle.bi_norm.specs.Kinds.{BeginsAs}
use Rattle.bi_norm.specs.Meaning.{Meaning, OfLegacy, OfFit, Means, MeansNothing}
use Rattle.bi_common.specs.declared.format.Format.{Format}
use Rattle.bi_common.specs.declared.format.Format.TheVariants as form
use Rattle.bi_common.specs.CommonLines.{name_member}
use Rattle.bi_common.specs.Json.{Json, Member, json_array, json_line, json_number, json_object}
use Rattle.bi_common.specs.Json.{json_string}
use Rattle.bi_common.specs.JsonTokens.{JsonToken, json_tokens, value_tokens}
use Rattle.bi_common.specs.Lines.{Field, Line, Text, Name, Decimal, text_of_lines}
use Rattle.bi_common.specs.LineTokens.{LineToken, tokens_of_lines}
use Rattle.bi_common.specs.Offsets.{input_from}
use Rattle.bi_report.specs.Checking.{content_end}

-- Finding the boot images inside a file: at each offset, aligned or not, and also one inside
-- another (profile of this project).

-- The offsets of the bytes of an input, in their order.
abbrev pub input_offsets : (input : List ℕ) → List ℕ
input_offsets input = range_with_len 0 (length input)

-- ---- the bound on work

-- The checks after which the header of a legacy image claims its data. So all of the data is there.
abbrev pub legacy_claim_checks : List legacy.Check
legacy_claim_checks = legacy.HasHeader ∷ legacy.HasHeaderChecksum ∷ legacy.HasData ∷ []

-- The checks after which the header of a blob claims its total size. So all of the blob is there.
abbrev pub blob_claim_checks : List HeaderCheck
blob_claim_checks =
    HasHeader ∷ HasVersion ∷ HasCompatibleVersion ∷ TotalHoldsHeader ∷ FileHoldsTotal
    ∷ PlacesReservations ∷ PlacesStructure ∷ PlacesStrings ∷ []

-- An image begins with a header that passes these checks. They are the same under all limits.
pub record HasLegacyClaim (image : List ℕ) : Type 0 where
  pub begins : BeginsAs image kind.Legacy
  pub passes : HasNoFault (legacy.Passes widest image) legacy_claim_checks

pub record HasBlobClaim (image : List ℕ) : Type 0 where
  pub begins : BeginsAs image kind.Fit
  pub passes : HasNoFault (HeaderPasses widest image) blob_claim_checks

-- How many of its bytes an image claims: the header and the data of a legacy image, or the total
-- size of a blob. The time that reading the image takes grows with them. An image that claims none
-- is refused by its first bytes.
pub data IsClaim (image : List ℕ) (claim : ℕ) : Type 0 where
  OfData : HasLegacyClaim image → claim ≡ 64 + u32_at image 12 → IsClaim image claim
  OfBlob : HasBlobClaim image → claim ≡ totalsize image → IsClaim image claim
  OfNothing : ¬ (HasLegacyClaim image) → ¬ (HasBlobClaim image) → claim ≡ 0 → IsClaim image claim

-- The images claim nothing that begin at an offset from `from` on and before `end`.
abbrev pub ClaimsNothing : (input : List ℕ) → (from end : ℕ) → Type 0
ClaimsNothing input from end = (offset : ℕ) → from ≤ offset → offset < end
    → IsClaim (input_from offset input) 0

-- The image at an offset claims bytes.
abbrev pub ClaimsSomething : (input : List ℕ) → (offset : ℕ) → Type 0
ClaimsSomething input offset = (claim : ℕ) × IsClaim (input_from offset input) claim × (0 < claim)

-- An offset is 0, or the image just before it claims bytes.
abbrev pub IsAfterClaim : (input : List ℕ) → (end : ℕ) → Type 0
IsAfterClaim input end = (offset : ℕ) → end ≡ offset + 1 → ClaimsSomething input offset

-- These are the claims of the images at all offsets of an input.
abbrev pub AreClaims : (input : List ℕ) → (claims : List ℕ) → Type 0
AreClaims input claims =
    AllZip (λ offset. IsClaim (input_from offset input)) (input_offsets input) claims

-- The images claim no more bytes together than the limit.
pub record IsWithinClaims (limits : Limits) (input : List ℕ) : Type 0 where
  pub claims : List ℕ
  pub are_claims : AreClaims input claims
  pub within : sum claims ≤ limits.file

-- They claim more.
pub record IsOverClaims (limits : Limits) (input : List ℕ) : Type 0 where
  pub claims : List ℕ
  pub are_claims : AreClaims input claims
  pub over : limits.file < sum claims

-- ---- what is found

-- How many bytes an image with a meaning has: a legacy image ends with its data, and a flattened
-- image tree ends where the blob ends, or the payload that ends last.
abbrev pub HasExtent : Limits → (image : List ℕ) → Meaning → (extent : ℕ) → Type 0
HasExtent limits image (OfLegacy legacy_image) extent = extent ≡ 64 + u32_at image 12
HasExtent limits image (OfFit tree) extent =
    (means : FitMeans limits image tree)
    × (extent ≡ content_end image means.is_file.images tree.payloads)

-- At an offset of an input is an image that is accepted, with this extent and this meaning.
pub record IsImageAt (limits : Limits) (input : List ℕ) (offset extent : ℕ) (meaning : Meaning)
    : Type 0
  where
    pub means : Means limits (input_from offset input) meaning
    pub has_extent : HasExtent limits (input_from offset input) meaning extent

-- The kind of an image that is found: a legacy image with this name, or a flattened image tree with
-- so many images.
pub data ScannedKind : Type 0 where
  LegacyNamed : (name : List ℕ) → ScannedKind
  TreeOf : (images : ℕ) → ScannedKind

-- An image that is found: where it begins, how many bytes it has, and its kind.
pub record ScannedImage : Type 0 where
  pub offset : ℕ
  pub extent : ℕ
  pub kind : ScannedKind

-- The kind of an image with a meaning.
abbrev pub scanned_kind : Meaning → ScannedKind
scanned_kind (OfLegacy image) = LegacyNamed image.name
scanned_kind (OfFit tree) = TreeOf (length tree.payloads)

-- The image with this meaning and this extent at an offset.
abbrev pub scanned_image : (offset extent : ℕ) → Meaning → ScannedImage
scanned_image offset extent meaning =
    record { offset = offset; extent = extent; kind = scanned_kind meaning }

-- What a scan finds at an offset: the image that is accepted there, or nothing.
pub data IsFoundAt (limits : Limits) (input : List ℕ) (offset : ℕ) (found : List ScannedImage)
    : Type 0
  where
    WithImage : (extent : ℕ) (meaning : Meaning) → IsImageAt limits input offset extent meaning
        → found ≡ scanned_image offset extent meaning ∷ [] → IsFoundAt limits input offset found
    WithoutImage : MeansNothing limits (input_from offset input) → found ≡ []
        → IsFoundAt limits input offset found

-- The images at all offsets.
abbrev pub all_found : (by_offset : List (List ScannedImage)) → List ScannedImage
all_found by_offset = flat_map (λ found. found) by_offset

-- Whether there are any.
abbrev pub has_images : List ScannedImage → Bool
has_images [] = false
has_images (image ∷ later) = true

-- ---- their texts

-- The word for a kind, and what follows the size in a line and in JSON: the name, or the number of
-- images.
abbrev pub scanned_kind_word : ScannedKind → List ℕ
scanned_kind_word (LegacyNamed name) = codes "legacy"
scanned_kind_word (TreeOf images) = codes "fit"

abbrev pub kind_field : ScannedKind → Field
kind_field (LegacyNamed name) = Name name
kind_field (TreeOf images) = Decimal images

abbrev pub kind_member : ScannedKind → Member
kind_member (LegacyNamed name) = name_member (codes "name") name
kind_member (TreeOf images) = (codes "images", json_number images)

-- The line of an image: where it begins, its kind, how many bytes it has, and its name or the
-- number of its images.
abbrev pub scan_line : ScannedImage → Line
scan_line image =
    Decimal image.offset ∷ Text (scanned_kind_word image.kind) ∷ Decimal image.extent
    ∷ kind_field image.kind ∷ []

-- The same in JSON.
abbrev pub scanned_object : ScannedImage → Json
scanned_object image =
    json_object
    ((codes "offset", json_number image.offset)
    ∷ (codes "kind", json_string (scanned_kind_word image.kind))
    ∷ (codes "size", json_number image.extent)
    ∷ kind_member image.kind ∷ [])

-- The images that are found, in JSON.
abbrev pub scan_object : List ScannedImage → Json
scan_object images =
    json_object ((codes "images", json_array (map scanned_object images)) ∷ [])

-- The text of a scan that finds these images, in a form.
abbrev pub scan_text : Format → List ScannedImage → List ℕ
scan_text form.Lines images = text_of_lines (map scan_line images)
scan_text form.Json images = json_line (scan_object images)

-- The text is that of the images at each offset, in order.
pub record HasFound (format : Format) (limits : Limits) (input text : List ℕ) : Type 0 where
  pub found : List (List ScannedImage)
  pub are_found : AllZip (IsFoundAt limits input) (input_offsets input) found
  pub is_text : text ≡ scan_text format (all_found found)

-- What a scan finds at an offset was put to a pen by its tokens, and this is whether it finds
-- anything,
abbrev pub PutsFoundAt : {S T : Type 0} → (S → List T → S → Type 0) → (List ScannedImage → List T)
    → Limits → (input : List ℕ) → (offset : ℕ) → (any : Bool) → (old new : S) → Type 0
PutsFoundAt puts tokens limits input offset any old new =
    (found : List ScannedImage) × IsFoundAt limits input offset found × puts old (tokens found) new
    × (any ≡ has_images found)

-- or what it finds at each of the first offsets, in order.
abbrev pub PutsFirstFound : {S T : Type 0} → (S → List T → S → Type 0)
    → (List ScannedImage → List T) → Limits → (input : List ℕ) → (count : ℕ) → (any : Bool)
    → (old new : S) → Type 0
PutsFirstFound puts tokens limits input count any old new =
    (found : List (List ScannedImage))
    × AllZip (IsFoundAt limits input) (range_with_len 0 count) found
    × puts old (tokens (all_found found)) new × (any ≡ has_images (all_found found))

-- The tokens of their lines, and of their objects.
abbrev pub scan_line_tokens : List ScannedImage → List LineToken
scan_line_tokens images = tokens_of_lines (map scan_line images)

abbrev pub scanned_tokens : List ScannedImage → List JsonToken
scanned_tokens images = value_tokens (map scanned_object images)

-- Those of the object of all of them.
abbrev pub scan_object_tokens : List ScannedImage → List JsonToken
scan_object_tokens images = json_tokens (scan_object images)

-- The text of what a scan finds was put to a pen, and this is whether it finds anything.
abbrev pub PutsScanText : {S : Type 0} → (S → List ℕ → S → Type 0) → Format → Limits
    → (input : List ℕ) → (any : Bool) → (old new : S) → Type 0
PutsScanText puts format limits input any old new =
    PutsFirstFound puts (scan_text format) limits input (length input) any old new

-- ---- scanning

-- An input is no longer than the limit, and neither are the claims together.
pub record CanBeScanned (limits : Limits) (input : List ℕ) : Type 0 where
  pub short : length input ≤ limits.file
  pub within : IsWithinClaims limits input

-- The text is that of a scan of an input, in a form.
pub record IsScanText (format : Format) (limits : Limits) (input text : List ℕ) : Type 0 where
  pub can : CanBeScanned limits input
  pub has : HasFound format limits input text

-- So it is, and this is whether an image is found.
pub record IsScanOutput (format : Format) (limits : Limits) (found : Bool) (input text : List ℕ)
    : Type 0
  where
    pub is_scan : IsScanText format limits input text
    pub is_found : IsTrue found ↔ (all_found is_scan.has.found ≢ [])

-- The fault of an input: TooLarge at the limit, if the input is longer, or if its images claim
-- more.
pub record IsScanFault (limits : Limits) (input : List ℕ) (fault : Fault) : Type 0 where
  pub is_too_large : fault ≡ too_large limits.file
  pub cause : (limits.file < length input) ⊎ IsOverClaims limits input

-- The error that scanning can have. It needs memory only for an input that can be scanned.
abbrev pub IsScanError : Limits → (input : List ℕ) → Error → Type 0
IsScanError limits input = FailsWith (IsScanFault limits input) (CanBeScanned limits input)

-- What scanning promises as a command.
abbrev pub scan_promise : Format → Limits → CommandPromise Bool Error
scan_promise format limits = record {
  is_output = λ found input text. IsScanOutput format limits found input text;
  is_text = IsScanText format limits;
  has_error = IsScanError limits;
  wraps = λ error. error;
}

pub scan_laws : (format : Format) (limits : Limits) → PromiseLaws (scan_promise format limits)
scan_laws format limits = record {
  is_text = λ found input text is. is.is_scan;
  wraps_once = λ a b same. same;
  no_read_error = λ input is. is;
  no_write_error = λ input is. is;
}
