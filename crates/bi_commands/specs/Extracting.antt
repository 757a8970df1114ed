use Rattle.std.specs.Prelude.{ℕ, ◌≡◌, List, Option, None, Some, slice_get}
use Rattle.std.proofs.Common.{ap}
use Rattle.bi_base.specs.declared.fault.Error.TheVariants.{OutOfMemory}
use Rattle.bi_base.specs.declared.fault.Error.{Error}
use Rattle.bi_base.specs.Commands.{CommandPromise, PromiseLaws}
use Rattle.bi_base.specs.Limits.{Limits}
use Rattle.bi_fit.specs.declared.configurations.ConfigError.{ConfigError}
use Rattle.bi_fit.specs.declared.configurations.ConfigError.TheVariants as list
use Rattle.bi_fit.specs.declared.key.Key.{Key}
use Rattle.bi_fit.specs.ImageTree.{ImageTree}
use Rattle.bi_fit.specs.Judgement.{Image as TreeImage, ListResult, NoConfig, NoKey, BadList}
use Rattle.bi_fit.specs.Judgement.{Missing, ListedImages, ListedImage}
use Rattle.bi_fit.specs.Judgement.{images_of, image_named, listed_of, default_of}
use Rattle.bi_norm.specs.Meaning.{Meaning, OfLegacy, OfFit, Means}
use Rattle.bi_norm.specs.Reading.{IsBootImageReadError}
use Rattle.bi_commands.specs.declared.extract.Select.{Select}
use Rattle.bi_commands.specs.declared.extract.Select.TheVariants.{Part, Image, Config, Default}
use Rattle.bi_commands.specs.declared.extract.ExtractError.{ExtractError}
use Rattle.bi_commands.specs.declared.extract.ExtractError.TheVariants as error

-- What `extract` writes (profile of this project).

-- What a selection chooses of a boot image: bytes, or the first reason why there are none.
pub data Choice : Type 0 where
  OfOtherKind : Choice
  NoSuchPart : Choice
  NoSuchImage : Choice
  NoSuchConfiguration : Choice
  NoSuchKey : Choice
  HasBadList : Choice
  HasMissingImage : (index : ℕ) → Choice
  NoSuchEntry : Choice
  HasNoPayload : Choice
  Chosen : (bytes : List ℕ) → Choice

-- A part, if there is one.
abbrev pub choice_of_part : Option (List ℕ) → Choice
choice_of_part None = NoSuchPart
choice_of_part (Some part) = Chosen part

-- A payload, if there is one.
abbrev pub choice_of_payload : Option (List ℕ) → Choice
choice_of_payload None = HasNoPayload
choice_of_payload (Some payload) = Chosen payload

-- The payload of an image, if there is such an image.
abbrev pub choice_of_image : Option TreeImage → Choice
choice_of_image None = NoSuchImage
choice_of_image (Some image) = choice_of_payload image.payload

-- The payload of the image of this name.
abbrev pub choice_by_name : ImageTree → List ℕ → Choice
choice_by_name tree name = choice_of_image (image_named name (images_of tree))

-- The payload of an entry of a list, if the list has the entry.
abbrev pub choice_of_entry : Option ListedImage → Choice
choice_of_entry None = NoSuchEntry
choice_of_entry (Some image) = choice_of_payload image.payload

-- The payload at this index of what a configuration lists.
abbrev pub choice_of_listed : ListResult → ℕ → Choice
choice_of_listed NoConfig index = NoSuchConfiguration
choice_of_listed NoKey index = NoSuchKey
choice_of_listed BadList index = HasBadList
choice_of_listed (Missing missing) index = HasMissingImage missing
choice_of_listed (ListedImages images) index = choice_of_entry (slice_get images index)

-- The payload at this index of what the configuration of this name lists under a key.
abbrev pub choice_by_configuration : ImageTree → (configuration : List ℕ) → Key → ℕ → Choice
choice_by_configuration tree configuration key index =
    choice_of_listed (listed_of tree configuration key) index

-- The payload at this index of what the configuration of this name lists under a key. There may be
-- no name, and then there is no such configuration.
abbrev pub choice_by_name_if_any : ImageTree → (configuration : Option (List ℕ)) → Key → ℕ → Choice
choice_by_name_if_any tree None key index = NoSuchConfiguration
choice_by_name_if_any tree (Some configuration) key index =
    choice_by_configuration tree configuration key index

-- The payload at this index of what the default configuration lists under a key.
abbrev pub choice_by_default : ImageTree → Key → ℕ → Choice
choice_by_default tree key index = choice_by_name_if_any tree (default_of tree) key index

-- What a selection chooses of a boot image: a part of a legacy image, a payload of a flattened
-- image tree.
abbrev pub choice_of : Select → Meaning → Choice
choice_of (Part index) (OfLegacy image) = choice_of_part (slice_get image.parts index)
choice_of (Part index) (OfFit tree) = OfOtherKind
choice_of (Image name) (OfLegacy image) = OfOtherKind
choice_of (Image name) (OfFit tree) = choice_by_name tree name.now
choice_of (Config configuration key index) (OfLegacy image) = OfOtherKind
choice_of (Config configuration key index) (OfFit tree) =
    choice_by_configuration tree configuration.now key index
choice_of (Default key index) (OfLegacy image) = OfOtherKind
choice_of (Default key index) (OfFit tree) = choice_by_default tree key index

-- The file means something of which this holds.
pub record MeansSuch (limits : Limits) (file : List ℕ) (Holds : Meaning → Type 0) : Type 0 where
  pub meaning : Meaning
  pub means : Means limits file meaning
  pub holds : Holds meaning

-- The file means something of which the selection chooses these bytes.
abbrev pub IsChosen : Select → Limits → List ℕ → List ℕ → Type 0
IsChosen select limits file bytes =
    MeansSuch limits file (λ meaning. choice_of select meaning ≡ Chosen bytes)

-- The choice is the reason that this error names.
abbrev pub IsReason : ExtractError → Choice → Type 0
IsReason (error.Failed failed) choice = ⊥
IsReason error.WrongKind choice = choice ≡ OfOtherKind
IsReason error.NoPart choice = choice ≡ NoSuchPart
IsReason error.NoImage choice = choice ≡ NoSuchImage
IsReason (error.Config list.NoConfig) choice = choice ≡ NoSuchConfiguration
IsReason (error.Config list.NoKey) choice = choice ≡ NoSuchKey
IsReason (error.Config list.BadList) choice = choice ≡ HasBadList
IsReason (error.Config (list.Missing index)) choice = choice ≡ HasMissingImage index
IsReason (error.Config list.OutOfMemory) choice = ⊥
IsReason error.NoIndex choice = choice ≡ NoSuchEntry
IsReason error.NoPayload choice = choice ≡ HasNoPayload

-- The error that extracting from a file in memory can have: one of reading it, or the first reason
-- why the selection chooses no bytes of what the file means.
abbrev pub IsExtractError : Select → Limits → List ℕ → ExtractError → Type 0
IsExtractError select limits file (error.Failed failed) = IsBootImageReadError limits file failed
IsExtractError select limits file other =
    MeansSuch limits file (λ meaning. IsReason other (choice_of select meaning))

-- The error of extracting where this is the error of listing what a configuration has under a key.
-- Running out of memory is always `Failed`.
abbrev pub error_of_listing : ConfigError → ExtractError
error_of_listing list.OutOfMemory = error.Failed OutOfMemory
error_of_listing other = error.Config other

-- What extracting promises as a command.
abbrev pub extract_promise : Select → Limits → CommandPromise (Unit {0}) ExtractError
extract_promise select limits = record {
  is_output = λ value file bytes. IsChosen select limits file bytes;
  is_text = IsChosen select limits;
  has_error = IsExtractError select limits;
  wraps = λ cause. error.Failed cause;
}

-- The error that an error of extracting has inside.
abbrev error_in_extract_error : ExtractError → Error
error_in_extract_error (error.Failed cause) = cause
error_in_extract_error other = OutOfMemory

pub extract_laws : (select : Select) (limits : Limits) → PromiseLaws (extract_promise select limits)
extract_laws select limits = record {
  is_text = λ value file bytes is. is;
  wraps_once = λ a b same. ap error_in_extract_error same;
  no_read_error = λ file is. is;
  no_write_error = λ file is. is;
}
