use Rattle.std.specs.Prelude.{ℕ, ◌≡◌, ◌≢◌, ◌+◌, ◌*◌, ◌≤◌, List, [], ◌∷◌, length}
use Rattle.std.specs.List.{Contains}
use Rattle.bi_base.specs.Cells.{slice}
use Rattle.bi_base.specs.declared.fault.Fault.{Fault}
use Rattle.bi_base.specs.Limits.{Limits}
use Rattle.bi_norm.specs.Meaning.{Meaning, Means}
use Rattle.bi_common.specs.declared.format.Format.{Format}
use Rattle.bi_common.specs.Offsets.{input_from}
use Rattle.bi_report.specs.Scanning.{IsImageAt, IsScanFault, IsScanText, ScannedImage, all_found}
use Rattle.bi_report.specs.Scanning.{scanned_image}

-- Laws of the boot images inside a file. Each is the contract of a function in `laws`.

-- An image that is cut out at its offset, with its extent, is whole: it is accepted under the same
-- limits, and means the same.
pub record IsWholeImage (limits : Limits) (input : List ℕ) (offset extent : ℕ) (meaning : Meaning)
    : Type 0
  where
    pub in_input : offset + extent ≤ length input
    pub means : Means limits (slice input offset extent) meaning

-- So is each image that a scan finds.
abbrev pub ScannedImagesAreWhole : Type 0
ScannedImagesAreWhole =
    (limits : Limits) (input : List ℕ) (offset extent : ℕ) (meaning : Meaning)
    → IsImageAt limits input offset extent meaning
    → IsWholeImage limits input offset extent meaning

-- Of the images that are found at offsets, there is one for each image that is accepted at an
-- offset of an input, and no other.
pub record HasEachImage (limits : Limits) (input : List ℕ) (found : List (List ScannedImage))
    : Type 0
  where
    pub each : (offset : ℕ) (meaning : Meaning) → Means limits (input_from offset input) meaning
        → (extent : ℕ) × IsImageAt limits input offset extent meaning
        × Contains found (scanned_image offset extent meaning ∷ [])
    pub no_other : (images : List ScannedImage) → Contains found images → images ≢ []
        → (offset extent : ℕ) × (meaning : Meaning) × IsImageAt limits input offset extent meaning
        × (images ≡ scanned_image offset extent meaning ∷ [])

-- Those of a scan are such.
abbrev pub EachImageIsFound : Type 0
EachImageIsFound =
    (format : Format) (limits : Limits) (input text : List ℕ)
    (is : IsScanText format limits input text) → HasEachImage limits input is.has.found

-- An input has at most one scan in a form.
abbrev pub OneScan : Type 0
OneScan =
    (format : Format) (limits : Limits) (input one other : List ℕ)
    → IsScanText format limits input one → IsScanText format limits input other → one ≡ other

-- An input with a scan has no fault.
abbrev pub ScanHasNoFault : Type 0
ScanHasNoFault =
    (format : Format) (limits : Limits) (input text : List ℕ) (fault : Fault)
    → IsScanText format limits input text → ¬ (IsScanFault limits input fault)

-- A scan finds at most as many images as an input of the limit's length has room for headers of
-- legacy images.
abbrev pub FoundImagesAreFew : Type 0
FoundImagesAreFew =
    (format : Format) (limits : Limits) (input text : List ℕ)
    (is : IsScanText format limits input text)
    → 64 * length (all_found is.has.found) ≤ limits.file
