use Rattle.std.specs.Prelude.{ℕ, ◌≡◌, ◌≢◌, ◌+◌, ◌≤◌, ◌==◌, List, [], ◌∷◌, ◌++◌, map, codes}
use Rattle.std.specs.Prelude.{Option, None, Some, slice_get, Contains, if◌then◌else◌}
use Rattle.std.specs.Fmt.{decimal}
use Rattle.std.specs.List.{AllByRecursion}
use Rattle.bi_base.specs.declared.fault.Error.{Error}
use Rattle.bi_base.specs.Limits.{Limits}
use Rattle.bi_blob.specs.Tree.{AreDistinct}
use Rattle.bi_fit.specs.ImageTree.{ImageTree}
use Rattle.bi_fit.specs.Judgement.{Image, images_of}
use Rattle.bi_norm.specs.Comparing.{MeansOnly}
use Rattle.bi_norm.specs.Meaning.{Meaning, OfLegacy, OfFit, Means}
use Rattle.bi_norm.specs.Reading.{IsReadErrorOrTooLarge}
use Rattle.bi_common.specs.PayloadBounds.{IsOverPayloadBound}
use Rattle.bi_common.specs.Shown.{shown_text}
use Rattle.bi_commands.specs.declared.extract.Select.TheVariants.{Part}
use Rattle.bi_commands.specs.Extracting.{Chosen, choice_of, choice_by_name, MeansSuch}

-- What `extract --all` writes: each payload of a boot image, in its own file (profile of this
-- project).

-- A file with a payload: its name, and its bytes.
pub record PayloadFile : Type 0 where
  pub name : List ℕ
  pub bytes : List ℕ

-- The name of the file of a part: `part-` and its index.
abbrev pub part_file_name : (index : ℕ) → List ℕ
part_file_name index = codes "part-" ++ decimal index

-- A name, with `%2E` instead of a first dot. A file whose name begins with a dot is hidden, and `.`
-- and `..` are directories.
abbrev pub without_first_dot : List ℕ → List ℕ
without_first_dot [] = []
without_first_dot (byte ∷ later) =
    if byte == 46 then codes "%2E" ++ later else byte ∷ later

-- The name of the file of an image: the name of the image as it is printed, without a first dot.
abbrev pub image_file_name : (name : List ℕ) → List ℕ
image_file_name name = without_first_dot (shown_text name)

-- The files of these parts. The first part has this index.
abbrev pub part_files : (index : ℕ) → List (List ℕ) → List PayloadFile
part_files index [] = []
part_files index (part ∷ later) =
    record { name = part_file_name index; bytes = part } ∷ part_files (index + 1) later

-- The file of an image, if it has a payload.
abbrev pub image_file : (name : List ℕ) → Option (List ℕ) → List PayloadFile
image_file name None = []
image_file name (Some payload) =
    record { name = image_file_name name; bytes = payload } ∷ []

-- The files of these images. An image without a payload has no file. An image with an empty payload
-- has an empty file.
abbrev pub image_files : List Image → List PayloadFile
image_files [] = []
image_files (image ∷ later) =
    image_file image.entry.name image.payload ++ image_files later

-- The files of all payloads of a boot image, in their order.
abbrev pub payload_files : Meaning → List PayloadFile
payload_files (OfLegacy image) = part_files 0 image.parts
payload_files (OfFit tree) = image_files (images_of tree)

-- A name that a file in a new directory can safely have: it is not empty, each byte is graphic
-- ASCII (so none is zero), none is a slash, and the first is not a dot.
pub record IsSafeFileName (name : List ℕ) : Type 0 where
  pub some : name ≢ []
  pub graphic : AllByRecursion (λ byte. (0x21 ≤ byte) × (byte ≤ 0x7e)) name
  pub no_slash : AllByRecursion (λ byte. byte ≢ 47) name
  pub no_first_dot : (later : List ℕ) → name ≢ 46 ∷ later

-- Names of files in one directory: each is safe, and no two are the same.
pub record AreSafeFileNames (names : List (List ℕ)) : Type 0 where
  pub each : AllByRecursion IsSafeFileName names
  pub distinct : AreDistinct names

-- The file has the bytes that `extract` returns of a part of a legacy image, or of an image of a
-- FIT. The file has the name for this part or image.
pub data IsExtractedFile (meaning : Meaning) (file : PayloadFile) : Type 0 where
  OfPart : (index : ℕ) → choice_of (Part index) meaning ≡ Chosen file.bytes
      → file.name ≡ part_file_name index → IsExtractedFile meaning file
  OfImage : (tree : ImageTree) → meaning ≡ OfFit tree → (name : List ℕ)
      → choice_by_name tree name ≡ Chosen file.bytes
      → file.name ≡ image_file_name name → IsExtractedFile meaning file

-- These are the files of all payloads of a file. The file means this boot image.
pub record AreAllPayloads (limits : Limits) (file : List ℕ) (files : List PayloadFile) : Type 0
  where
    pub meaning : Meaning
    pub means : MeansOnly limits file meaning
    pub within : ¬ (IsOverPayloadBound limits meaning)
    pub are : files ≡ payload_files meaning
    -- What follows: the names are safe, and each file has what `extract` returns.
    pub safe : AreSafeFileNames (map (λ payload. payload.name) files)
    pub extracted : AllByRecursion (IsExtractedFile meaning) files

-- The error of extracting all payloads of a file in memory: an error of reading the file, or
-- TooLarge, if the payloads together are longer than the limit.
abbrev pub IsExtractAllError : Limits → List ℕ → Error → Type 0
IsExtractAllError limits file =
    IsReadErrorOrTooLarge limits file (MeansSuch limits file (IsOverPayloadBound limits))

-- Each payload has its file: the part at each index, in the order of parts, and the image of each
-- name.
pub record HasEachFile (meaning : Meaning) : Type 0 where
  pub parts : (index : ℕ) (bytes : List ℕ) → choice_of (Part index) meaning ≡ Chosen bytes
      → slice_get (payload_files meaning) index
      ≡ Some (record { name = part_file_name index; bytes = bytes })
  pub images : (tree : ImageTree) → meaning ≡ OfFit tree → (name bytes : List ℕ)
      → choice_by_name tree name ≡ Chosen bytes
      → Contains (payload_files meaning)
      (record { name = image_file_name name; bytes = bytes })

-- This holds for each meaning of a file.
abbrev pub EachPayloadHasItsFile : Type 0
EachPayloadHasItsFile =
    (limits : Limits) (file : List ℕ) (meaning : Meaning) → Means limits file meaning
    → HasEachFile meaning

-- The files of what a file means have safe names. No two images or parts have the same file.
abbrev pub FileNamesAreSafe : Type 0
FileNamesAreSafe =
    (limits : Limits) (file : List ℕ) (meaning : Meaning) → Means limits file meaning
    → AreSafeFileNames (map (λ payload. payload.name) (payload_files meaning))
