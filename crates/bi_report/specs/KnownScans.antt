use Rattle.std.specs.Prelude.{ℕ, ◌≡◌, ◌↔◌, Bool, true, false, List, [], ◌∷◌, ◌++◌, length, take}
use Rattle.std.specs.Prelude.{codes, replicate}
use Rattle.bi_base.specs.declared.fault.Error.{Error}
use Rattle.bi_base.specs.declared.fault.Error.TheVariants.{OutOfMemory, Refused}
use Rattle.bi_base.specs.Cells.{cell}
use Rattle.bi_base.specs.Crc.{crc32}
use Rattle.bi_base.specs.Limits.{Limits}
use Rattle.bi_base.specs.Reading.{too_large}
use Rattle.bi_blob.specs.Blob.{blob_magic}
use Rattle.bi_blob.specs.KnownBlobs.{with_cell}
use Rattle.bi_blob.specs.KnownTexts.{smallest_text}
use Rattle.bi_fit.specs.KnownFiles.{three_external}
use Rattle.bi_legacy.specs.File.{header_cells, legacy_magic}
use Rattle.bi_legacy.specs.KnownImages.{kernel_image, kernel_file}
use Rattle.bi_legacy.specs.Meaning.{LegacyImage}
use Rattle.bi_legacy.specs.Text.{legacy_text}
use Rattle.bi_common.specs.declared.format.Format.{Format}
use Rattle.bi_common.specs.declared.format.Format.TheVariants.{Json, Lines}
use Rattle.bi_common.specs.Offsets.{input_from}
use Rattle.bi_report.specs.Scanning.{IsClaim, scan_promise}

-- Small files with the images that are inside them, by which a reader can judge the definitions.

-- A legacy image of 73 bytes, one byte, and the smallest flattened image tree, of 88 bytes.
abbrev pub two_images : List ℕ
two_images = kernel_file ++ (0xff ∷ smallest_text)

-- A legacy kernel whose data is that flattened image tree.
abbrev pub kernel_of_tree : LegacyImage
kernel_of_tree = record kernel_image { parts = smallest_text ∷ [] }

abbrev pub nested_images : List ℕ
nested_images = legacy_text kernel_of_tree

-- A header without data that names a size of 0xfffffff0, with the right checksum.
abbrev pub great_size : ℕ
great_size = 0xfffffff0

abbrev pub great_header_with : (checksum : ℕ) → List ℕ
great_header_with checksum =
    header_cells checksum great_size 0 kernel_image (codes "k" ++ replicate 31 0)

abbrev pub great_header : List ℕ
great_header = great_header_with (crc32 (great_header_with 0))

-- Three magic numbers and nothing else, the first after one byte.
abbrev pub three_magics : List ℕ
three_magics = 1 ∷ cell legacy_magic ++ (cell legacy_magic ++ cell blob_magic)

-- Limits with this one on files.
abbrev pub scan_limits : ℕ → Limits
scan_limits most = record { file = most; depth = 64 }

-- Lines, each followed by a newline.
abbrev pub two_lines : List ℕ
two_lines = codes "0 legacy 73 k" ++ 10 ∷ (codes "74 fit 88 0" ++ 10 ∷ [])

-- The two images in JSON.
abbrev pub two_objects : List ℕ
two_objects =
    codes "{\"images\":[{\"offset\":0,\"kind\":\"legacy\",\"size\":73,\"name\":\"k\"},"
    ++ (codes "{\"offset\":74,\"kind\":\"fit\",\"size\":88,\"images\":0}]}" ++ 10 ∷ [])

abbrev pub nested_lines : List ℕ
nested_lines = codes "0 legacy 152 k" ++ 10 ∷ (codes "64 fit 88 0" ++ 10 ∷ [])

-- What images claim, also if bytes follow them: a legacy image whose data checksum is wrong, and a
-- blob of version 16, too. A header that fails a check claims nothing, and neither does an image of
-- no kind.
pub record ClaimsAreKnown : Type 0 where
  pub legacy : IsClaim two_images 73
  pub wrong_data : IsClaim (with_cell kernel_file 64 0) 73
  pub wrong_header : IsClaim (with_cell kernel_file 4 0) 0
  pub cut_legacy : IsClaim (take 72 kernel_file) 0
  pub great : IsClaim great_header 0
  pub tree : IsClaim (smallest_text ++ 0xff ∷ []) 88
  pub version_16 : IsClaim (with_cell smallest_text 20 16) 88
  pub version_15 : IsClaim (with_cell smallest_text 20 15) 0
  pub cut_tree : IsClaim (take 87 smallest_text) 0
  pub legacy_alone : IsClaim (cell legacy_magic) 0
  pub blob_alone : IsClaim (cell blob_magic) 0
  pub other : IsClaim (codes "hello") 0
  pub empty : IsClaim [] 0

-- Scanning the input within this limit gives this value and this text, and nothing else.
pub record IsOnlyScanIn (format : Format) (most : ℕ) (found : Bool) (input text : List ℕ) : Type 0
  where
    pub is_output : (scan_promise format (scan_limits most)).is_output found input text
    pub is_text : (scan_promise format (scan_limits most)).is_text input text
    pub only : (other_found : Bool) (other : List ℕ)
        → (scan_promise format (scan_limits most)).is_output other_found input other
        → (other_found ≡ found) × (other ≡ text)

abbrev pub IsOnlyScan : (most : ℕ) → (found : Bool) → (input text : List ℕ) → Type 0
IsOnlyScan most found input text = IsOnlyScanIn Lines most found input text

-- The texts of scans, and whether an image is found: two images one after the other, one inside the
-- other, external payloads, and no image at all.
pub record ScansAreKnown : Type 0 where
  pub two : IsOnlyScan 162 true two_images two_lines
  pub nested : IsOnlyScan 240 true nested_images nested_lines
  pub external : IsOnlyScan 253 true three_external (codes "0 fit 253 3" ++ 10 ∷ [])
  pub great : IsOnlyScan 162 false great_header []
  pub magic : IsOnlyScan 162 false (cell blob_magic) []
  pub magics : IsOnlyScan 64 false three_magics []
  pub none : IsOnlyScan 162 false (codes "hello") []
  pub empty : IsOnlyScan 64 false [] []
  pub two_in_json : IsOnlyScanIn Json 162 true two_images two_objects
  pub none_in_json : IsOnlyScanIn Json 162 false (codes "hello")
      (codes "{\"images\":[]}" ++ 10 ∷ [])

-- Scanning the input within this limit fails with this error, and with no other.
abbrev pub FailsScanning : ℕ → List ℕ → Error → Type 0
FailsScanning most input one =
    (format : Format) (error : Error)
    → (scan_promise format (scan_limits most)).has_error input error ↔ (error ≡ one)

-- The claims of the two images are 161 together, and of those one inside the other 240: a lower
-- limit refuses the file, and so does one lower than its length. An error is not changed.
pub record ScanErrorsAreKnown : Type 0 where
  pub longer : FailsScanning 161 two_images (Refused (too_large 161))
  pub claims : FailsScanning 239 nested_images (Refused (too_large 239))
  pub within : FailsScanning 240 nested_images OutOfMemory
  pub is_same : (format : Format) (limits : Limits) (error : Error)
      → (scan_promise format limits).wraps error ≡ error

-- The image at an offset of the first file: the flattened image tree, or nothing after its end.
pub record OffsetsAreKnown : Type 0 where
  pub start : input_from 0 two_images ≡ two_images
  pub tree : input_from 74 two_images ≡ smallest_text
  pub end : input_from 162 two_images ≡ []
  pub after : input_from 200 two_images ≡ []
  pub is_length : length two_images ≡ 162
