use Rattle.std.specs.Prelude.{ℕ, ◌≡◌, List, length, slice_get, Option, None, Some}
use Rattle.bi_base.specs.declared.fault.Error.TheVariants as error
use Rattle.bi_base.specs.Limits.{Limits}
use Rattle.bi_fit.specs.Content.{FitModel, index_of, place_or_absent, offset_of_place, tree_of}
use Rattle.bi_fit.specs.Reading.{IsReadFit}
use Rattle.bi_fit.specs.Judgement.{ListedImage, ListedImages, default_of, listed_of}
use Rattle.bi_fit.specs.declared.key.Key.{Key}
use Rattle.bi_legacy.specs.Reading.{LegacyModel, IsReadLegacy, part_places}
use Rattle.bi_fit.specs.Payloads.{IsAt}
use Rattle.bi_norm.specs.Reading.{IsBootImageReadError}
use Rattle.bi_commands.specs.declared.extract.ExtractError.{ExtractError}
use Rattle.bi_commands.specs.declared.extract.ExtractError.TheVariants as extract
use Rattle.bi_commands.specs.declared.extract.Select.{Select}
use Rattle.bi_commands.specs.declared.extract.Select.TheVariants.{Part, Image, Config, Default}
use Rattle.bi_commands.specs.Extracting.{Choice, OfOtherKind, NoSuchPart, NoSuchImage}
use Rattle.bi_commands.specs.Extracting.{NoSuchConfiguration, NoSuchKey, HasBadList}
use Rattle.bi_commands.specs.Extracting.{HasMissingImage, NoSuchEntry, HasNoPayload, Chosen}
use Rattle.bi_commands.specs.Extracting.{MeansSuch, choice_of}
use Rattle.bi_c.specs.Answers.{failure_of_error}
use Rattle.bi_c.specs.FitElements.{failure_of_list_error}
use Rattle.bi_c.specs.Checks.{IsWrong}
use Rattle.bi_c.specs.declared.argument.Argument.{Argument}
use Rattle.bi_c.specs.declared.failure.Failure.{Failure}
use Rattle.bi_c.specs.declared.failure.Failure.TheVariants.{WrongArgument, Refused, OutOfMemory}
use Rattle.bi_c.specs.declared.failure.Failure.TheVariants.{NotFound}

-- What calls from C that extract return: where in the caller's file the bytes are (profile of this
-- project).

-- The offset is that of the payload of the image with the given name.
pub record IsNamedOffset (content : FitModel) (name : List ℕ) (offset : ℕ) : Type 0 where
  pub index : ℕ
  pub is_named : index_of name content.images ≡ Some index
  pub is_offset : offset_of_place (place_or_absent (slice_get content.images index)) ≡ Some offset

-- The offset is that of the payload of the image that the entry at the given index names, of those
-- that the configuration with the given name lists under a key.
pub record IsListedOffset (content : FitModel) (configuration : List ℕ) (key : Key) (index : ℕ)
    (offset : ℕ) : Type 0 where
  pub listed : List ListedImage
  pub is_listed : listed_of (tree_of content) configuration key ≡ ListedImages listed
  pub entry : ListedImage
  pub is_entry : slice_get listed index ≡ Some entry
  pub is_offset : IsNamedOffset content entry.name offset

-- The same for the default configuration.
pub record IsDefaultOffset (content : FitModel) (key : Key) (index offset : ℕ) : Type 0 where
  pub configuration : List ℕ
  pub is_default : default_of (tree_of content) ≡ Some configuration
  pub is_offset : IsListedOffset content configuration key index offset

-- The offset is that of the payload of an image: of the one that is selected by its name, or of the
-- one that the selected entry of a configuration's list names.
abbrev pub IsPayloadOffset : Select → FitModel → (offset : ℕ) → Type 0
IsPayloadOffset (Part index) content offset = ⊥
IsPayloadOffset (Image name) content offset = IsNamedOffset content name.now offset
IsPayloadOffset (Config name key index) content offset =
    IsListedOffset content name.now key index offset
IsPayloadOffset (Default key index) content offset = IsDefaultOffset content key index offset

-- The offset is that of what is selected in the file: of the part with the given index, or of a
-- payload.
abbrev pub IsOffset : Limits → Select → List ℕ → (offset : ℕ) → Type 0
IsOffset limits (Part index) file offset =
    (image : LegacyModel) × IsReadLegacy limits file image
    × (slice_get (part_places image.image) index ≡ Some offset)
IsOffset limits select file offset =
    (content : FitModel) × IsReadFit limits file content × IsPayloadOffset select content offset

-- The choice is this many bytes of the file, from this offset on.
pub record IsChosenAt (file : List ℕ) (choice : Choice) (size offset : ℕ) : Type 0 where
  pub bytes : List ℕ
  pub is_chosen : choice ≡ Chosen bytes
  pub is_size : size ≡ length bytes
  -- They end within the file, and they are the file's bytes there.
  pub is_there : IsAt file offset bytes

-- The file means something. The selection chooses bytes of it, and the offset is that of the first
-- of them in the file.
pub record IsFound (limits : Limits) (select : Select) (file : List ℕ) (size offset : ℕ) : Type 0
  where
    pub is_chosen : MeansSuch limits file
        (λ meaning. IsChosenAt file (choice_of select meaning) size offset)
    pub is_offset : IsOffset limits select file offset

-- The numbers of the reason why a choice has no bytes: the reason, and the index of the first name
-- that no image has, if the reason names one.
abbrev pub IsReasonNumber : (reason index : ℕ) → Choice → Type 0
IsReasonNumber reason index OfOtherKind = (reason ≡ 1) × (index ≡ 0)
IsReasonNumber reason index NoSuchPart = (reason ≡ 2) × (index ≡ 0)
IsReasonNumber reason index NoSuchImage = (reason ≡ 3) × (index ≡ 0)
IsReasonNumber reason index NoSuchConfiguration = (reason ≡ 4) × (index ≡ 0)
IsReasonNumber reason index NoSuchKey = (reason ≡ 5) × (index ≡ 0)
IsReasonNumber reason index HasBadList = (reason ≡ 6) × (index ≡ 0)
IsReasonNumber reason index (HasMissingImage missing) = (reason ≡ 7) × (index ≡ missing)
IsReasonNumber reason index NoSuchEntry = (reason ≡ 8) × (index ≡ 0)
IsReasonNumber reason index HasNoPayload = (reason ≡ 9) × (index ≡ 0)
IsReasonNumber reason index (Chosen bytes) = ⊥

-- Why a selection finds nothing in a file.
abbrev pub IsSelectFailure : Limits → Select → List ℕ → Failure → Type 0
IsSelectFailure limits select file (WrongArgument found index) = ⊥
IsSelectFailure limits select file (Refused number fault) =
    (number ≡ 1) × IsBootImageReadError limits file (error.Refused fault)
IsSelectFailure limits select file OutOfMemory = IsBootImageReadError limits file error.OutOfMemory
IsSelectFailure limits select file (NotFound reason index) =
    MeansSuch limits file (λ meaning. IsReasonNumber reason index (choice_of select meaning))

-- The arguments are valid, and the selection finds this many bytes in the file, from this offset
-- on.
pub record IsExtracted (AreValid : Type 0) (limits : Limits) (select : Select) (file : List ℕ)
    (size offset : ℕ) : Type 0
  where
    pub valid : AreValid
    pub is_found : IsFound limits select file size offset

-- Why nothing is extracted.
abbrev pub IsExtractCallFailure : (Check : Option (Argument × ℕ) → Type 0) → Limits → Select
    → List ℕ → Failure → Type 0
IsExtractCallFailure Check limits select file (WrongArgument found index) =
    IsWrong Check found index
IsExtractCallFailure Check limits select file failure =
    Check None × IsSelectFailure limits select file failure

-- The failure for an error of extracting.
abbrev pub failure_of_extract_error : ExtractError → Failure
failure_of_extract_error (extract.Failed cause) = failure_of_error cause
failure_of_extract_error extract.WrongKind = NotFound 1 0
failure_of_extract_error extract.NoPart = NotFound 2 0
failure_of_extract_error extract.NoImage = NotFound 3 0
failure_of_extract_error (extract.Config cause) = failure_of_list_error cause
failure_of_extract_error extract.NoIndex = NotFound 8 0
failure_of_extract_error extract.NoPayload = NotFound 9 0
