use Rattle.std.specs.Prelude.{◌≡◌, ◌<◌, ◌++◌, ⊤, ℕ, Bool, true, false, List, [], Some, codes}
use Rattle.std.specs.Prelude.{slice_get, if◌then◌else◌}
use Rattle.std.specs.Fmt.{decimal}
use Rattle.bi_base.specs.declared.fault.Error.{Error}
use Rattle.bi_base.specs.declared.fault.Error.TheVariants.{Refused, OutOfMemory, ReadFailed}
use Rattle.bi_base.specs.declared.fault.Error.TheVariants.{WriteFailed}
use Rattle.bi_base.specs.Causes.{name_of}
use Rattle.bi_common.specs.Shown.{shown_text}
use Rattle.bi_fit.specs.declared.configurations.ConfigError.TheVariants as list
use Rattle.bi_commands.specs.declared.extract.ExtractError.{ExtractError}
use Rattle.bi_commands.specs.declared.extract.ExtractError.TheVariants as extract
use Rattle.bi_values.specs.declared.get_error.GetError.{GetError}
use Rattle.bi_values.specs.declared.get_error.GetError.TheVariants as get
use Rattle.bi_files.specs.declared.saving.SaveError.{SaveError}
use Rattle.bi_files.specs.declared.saving.SaveError.TheVariants as save
use Rattle.bootimg.specs.declared.command_line.values.ValueWords.{ValueWords}
use Rattle.bootimg.specs.declared.command_line.source.ImageSource.{ImageSource}
use Rattle.bootimg.specs.declared.command_line.source.ImageSource.TheVariants.{Standard, File}
use Rattle.bootimg.specs.declared.failure.Failure.{Failure}
use Rattle.bootimg.specs.declared.failure.Failure.TheVariants.{Call, WrongKind, NoPart, NoImage}
use Rattle.bootimg.specs.declared.failure.Failure.TheVariants.{NoConfig, NoKey, BadList, Missing}
use Rattle.bootimg.specs.declared.failure.Failure.TheVariants.{NoIndex, NoPayload, NoSelection}
use Rattle.bootimg.specs.declared.failure.Failure.TheVariants.{NoProperty, NoText, NoNumber}
use Rattle.bootimg.specs.declared.failure.Failure.TheVariants.{NothingToRemove}
use Rattle.bootimg.specs.declared.failure.Failure.TheVariants.{NoChange, BadValue, BadImage}
use Rattle.bootimg.specs.declared.failure.Failure.TheVariants.{BadConfiguration}
use Rattle.bootimg.specs.declared.failure.Failure.TheVariants.{CannotOpen, NotWritten}
use Rattle.bootimg.specs.declared.failure.Failure.TheVariants.{OutputIsTerminal}
use Rattle.bootimg.specs.ValueWords.{value_words_text}

-- The failures of the program, and the text of each (profile of this project).

-- The failure of an extraction.
abbrev pub failure_of : ExtractError → Failure
failure_of (extract.Failed error) = Call error
failure_of extract.WrongKind = WrongKind
failure_of extract.NoPart = NoPart
failure_of extract.NoImage = NoImage
failure_of (extract.Config list.NoConfig) = NoConfig
failure_of (extract.Config list.NoKey) = NoKey
failure_of (extract.Config list.BadList) = BadList
failure_of (extract.Config (list.Missing index)) = Missing index
failure_of (extract.Config list.OutOfMemory) = Call OutOfMemory
failure_of extract.NoIndex = NoIndex
failure_of extract.NoPayload = NoPayload

-- An error of getting values with these words is this failure: it has the words for the value of
-- the error.
abbrev pub IsFailureOfGetting : List ValueWords → GetError → Failure → Type 0
IsFailureOfGetting words (get.Failed error) failure = failure ≡ Call error
IsFailureOfGetting words get.WrongKind failure = failure ≡ WrongKind
IsFailureOfGetting words (get.NoProperty index) failure =
    (value : ValueWords) × (slice_get words index ≡ Some value) × (failure ≡ NoProperty value)
IsFailureOfGetting words (get.NoText index) failure =
    (value : ValueWords) × (slice_get words index ≡ Some value) × (failure ≡ NoText value)
IsFailureOfGetting words (get.NoNumber index) failure =
    (value : ValueWords) × (slice_get words index ≡ Some value) × (failure ≡ NoNumber value)

-- If the error names a value, its index is below this number.
abbrev pub IsIndexOfValue : (number : ℕ) → GetError → Type 0
IsIndexOfValue number (get.Failed error) = ⊤
IsIndexOfValue number get.WrongKind = ⊤
IsIndexOfValue number (get.NoProperty index) = index < number
IsIndexOfValue number (get.NoText index) = index < number
IsIndexOfValue number (get.NoNumber index) = index < number

-- The failure of saving an output or payloads.
abbrev pub failure_to_save : SaveError → Failure
failure_to_save save.NotWritten = NotWritten
failure_to_save save.OutOfMemory = Call OutOfMemory

-- The text of an error.
abbrev pub error_text : Error → List ℕ
error_text (Refused fault) = name_of fault.cause ++ (codes " at " ++ decimal fault.offset)
error_text OutOfMemory = codes "out of memory"
error_text ReadFailed = codes "read failed"
error_text WriteFailed = codes "write failed"

-- The text of a failure.
abbrev pub failure_text : Failure → List ℕ
failure_text (Call error) = error_text error
failure_text WrongKind = codes "the selection does not fit this kind of image"
failure_text NoPart = codes "no such part"
failure_text NoImage = codes "no such image"
failure_text NoConfig = codes "no such configuration"
failure_text NoKey = codes "no such key"
failure_text BadList = codes "bad list"
failure_text (Missing index) = codes "missing image " ++ decimal index
failure_text NoIndex = codes "no such entry"
failure_text NoPayload = codes "no payload"
failure_text (NoProperty words) = codes "no such property " ++ value_words_text words
failure_text (NoText words) = codes "no text " ++ value_words_text words
failure_text (NoNumber words) = codes "no number " ++ value_words_text words
failure_text (NothingToRemove word) = codes "nothing to remove " ++ word.now
failure_text NoSelection = codes "usage: give one of --part, --image, --config"
failure_text NoChange = codes "usage: give --time or --hashes"
failure_text BadValue = codes "usage: bad value"
failure_text (BadImage index) = codes "usage: bad image " ++ decimal index
failure_text (BadConfiguration index) = codes "usage: bad configuration " ++ decimal index
failure_text CannotOpen = codes "cannot be opened"
failure_text NotWritten = codes "write failed"
failure_text OutputIsTerminal = codes "standard output is a terminal, see -o"

-- Whether a failure is about the image or the output file: the image is refused, it cannot be
-- opened or read, or it does not have what is selected; or the output file cannot be written. The
-- other failures are those of the arguments, of memory and of writing to standard output.
abbrev pub is_about_image : Failure → Bool
is_about_image (Call (Refused fault)) = true
is_about_image (Call ReadFailed) = true
is_about_image (Call OutOfMemory) = false
is_about_image (Call WriteFailed) = false
is_about_image NoSelection = false
is_about_image NoChange = false
is_about_image BadValue = false
is_about_image (BadImage index) = false
is_about_image (BadConfiguration index) = false
is_about_image OutputIsTerminal = false
is_about_image failure = true

-- What the line of a failure has before the text of the failure: the name of the file that the
-- image is read from, or of the output file, if the failure is about it.
abbrev pub name_text : ImageSource → Failure → List ℕ
name_text Standard failure = []
name_text (File name) failure =
    if is_about_image failure then shown_text name.now ++ codes ": " else []
