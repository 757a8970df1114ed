use Rattle.std.specs.Prelude.{◌≡◌, ℕ, Bool, true, false, List, [], ◌∷◌, ◌++◌, codes, flat_map}
use Rattle.std.specs.Prelude.{Option, None, Some, IfSome}
use Rattle.std.specs.Fmt.{decimal}
use Rattle.bi_base.specs.Causes.{name_of}
use Rattle.bi_base.specs.declared.fault.Error.{Error}
use Rattle.bi_base.specs.declared.fault.Error.TheVariants.{Refused, OutOfMemory, ReadFailed}
use Rattle.bi_base.specs.declared.fault.Error.TheVariants.{WriteFailed}
use Rattle.bi_common.specs.Shown.{shown_byte}
use Rattle.bootimg.specs.Explanations.{name_of_message}
use Rattle.bootimg.specs.RefusedWords.{AtArgument, AtField, AtOption, FindsRefusedWord}
use Rattle.bootimg.specs.RefusedWords.{PlaceModel, RefusedWordModel, refused_model}
use Rattle.bootimg.specs.TakenWords.{names_taken, words_after_names, words_before_names}
use Rattle.bootimg.specs.declared.command_line.takes.Takes.{Takes}
use Rattle.bootimg.specs.declared.command_line.takes.Takes.TheVariants.{Part}
use Rattle.bootimg.specs.declared.failure.Failure.{Failure}
use Rattle.bootimg.specs.declared.failure.Failure.TheVariants.{Call, WrongKind, NoSelection}
use Rattle.bootimg.specs.declared.failure.Failure.TheVariants.{NoProperty, NoText, NoNumber}
use Rattle.bootimg.specs.declared.failure.Failure.TheVariants.{NoChange, BadValue, BadImage}
use Rattle.bootimg.specs.declared.failure.Failure.TheVariants.{BadConfiguration, CannotOpen}
use Rattle.bootimg.specs.declared.failure.Failure.TheVariants.{NotWritten, OutputIsTerminal}
use Rattle.bootimg.specs.declared.hints.Hint.{Hint}
use Rattle.bootimg.specs.declared.hints.Hint.TheVariants as hint
use Rattle.bootimg.specs.declared.messages.Message.{Message}
use Rattle.bootimg.specs.declared.messages.Message.TheVariants as message

-- The hints at a terminal: a sentence after the line of each failure (profile of this project).

-- The line of a hint, if there is one.
abbrev pub hint_line : Option (List ℕ) → List ℕ
hint_line None = []
hint_line (Some sentence) = codes "bootimg: hint: " ++ (sentence ++ 10 ∷ [])

-- ---- words that are not taken

-- Where a word stands.
abbrev pub place_text : PlaceModel → List ℕ
place_text (AtOption name) = codes "--" ++ name
place_text (AtArgument name) = name
place_text (AtField index name) = codes "image " ++ (decimal index ++ (codes ": " ++ name))

-- Names, with a comma between each two.
abbrev pub after_comma : List ℕ → List ℕ
after_comma name = codes ", " ++ name

abbrev pub names_with_commas : List (List ℕ) → List ℕ
names_with_commas [] = []
names_with_commas (name ∷ later) = name ++ flat_map after_comma later

-- Which words are taken.
abbrev pub taken_text : Takes → List ℕ
taken_text takes =
    words_before_names takes ++ (names_with_commas (names_taken takes) ++ words_after_names takes)

-- The word: as the name of a file if a file may be given, and else that it is not taken. Its bytes
-- are shown as those of names are.
abbrev pub word_text : Takes → (word : List ℕ) → List ℕ
word_text Part [] = codes "FILE"
word_text Part word = flat_map shown_byte word
word_text other word = codes ", not '" ++ (flat_map shown_byte word ++ codes "'")

-- The name that may be meant, if there is one.
abbrev pub near_text : Option (List ℕ) → List ℕ
near_text None = []
near_text (Some name) = codes ": did you mean '" ++ (name ++ codes "'?")

-- What is taken where a word stands that is not.
abbrev pub refused_text : RefusedWordModel → List ℕ
refused_text refused =
    place_text refused.given.place
    ++ (codes " takes " ++ (taken_text refused.given.takes
    ++ (word_text refused.given.takes refused.given.word ++ near_text refused.near)))

-- ---- failures

-- That `explain` says what a message means.
abbrev pub message_hint : Message → List ℕ
message_hint given = codes "see bootimg explain '" ++ (name_of_message given ++ codes "'")

-- The hint for an error of a call.
abbrev pub hint_of_error : Error → List ℕ
hint_of_error (Refused fault) = codes "see bootimg explain " ++ name_of fault.cause
hint_of_error OutOfMemory = message_hint message.OutOfMemory
hint_of_error ReadFailed = message_hint message.ReadFailed
hint_of_error WriteFailed = message_hint message.WriteFailed

-- The hint for a property or a text or a number that is not there.
abbrev value_hint : List ℕ
value_hint = codes "bootimg describe prints what the image has"

-- The hint for a failure, whatever the arguments.
abbrev pub failure_hint : Failure → List ℕ
failure_hint (Call error) = hint_of_error error
failure_hint WrongKind =
    codes "--part and fields are for a legacy image, --image, --config, --default and paths for a "
    ++ codes "FIT"
failure_hint (NoProperty words) = value_hint
failure_hint (NoText words) = value_hint
failure_hint (NoNumber words) = value_hint
failure_hint NoSelection = codes "see bootimg extract --help"
failure_hint NoChange = codes "see bootimg update --help"
failure_hint BadValue = message_hint message.BadValue
failure_hint (BadImage index) = message_hint message.BadImage
failure_hint (BadConfiguration index) = message_hint message.BadConfiguration
failure_hint CannotOpen = message_hint message.CannotOpen
failure_hint NotWritten = message_hint message.WriteFailed
failure_hint OutputIsTerminal =
    codes "-o FILE writes it to a file, and > FILE or | COMMAND also do"
failure_hint other = codes "bootimg list prints what the image holds"

-- The hint for a failure that is not one of the arguments, if hints are given.
abbrev pub hint_given : (hints : Bool) → Failure → Option (List ℕ)
hint_given false failure = None
hint_given true failure = Some (failure_hint failure)

-- ---- failures of the arguments

-- Whether a word of the arguments may be the reason for a failure.
abbrev pub is_about_word : Failure → Bool
is_about_word BadValue = true
is_about_word (BadImage index) = true
is_about_word (BadConfiguration index) = true
is_about_word other = false

-- The hint: what is taken in the place of the refused word, or else that for the failure.
abbrev pub reason_hint : Failure → Option RefusedWordModel → List ℕ
reason_hint failure None = failure_hint failure
reason_hint failure (Some refused) = refused_text refused

-- The hint for a failure of these arguments.
pub data IsUsageHint (arguments : List (List ℕ)) (failure : Failure) (sentence : List ℕ) : Type 0
  where
    OfWord : (refused : Option RefusedWordModel) → FindsRefusedWord arguments failure refused
        → sentence ≡ reason_hint failure refused → IsUsageHint arguments failure sentence
    OfFailure : is_about_word failure ≡ false → sentence ≡ failure_hint failure
        → IsUsageHint arguments failure sentence

-- The hint for a failure of the arguments, if hints are given. There is none if memory runs out.
abbrev pub IsHintAt : (hints : Bool) → List (List ℕ) → Failure → Option (List ℕ) → Type 0
IsHintAt false arguments failure sentence = sentence ≡ None
IsHintAt true arguments failure sentence = IfSome sentence (IsUsageHint arguments failure)

-- ---- hints of the program

-- The sentence of a hint.
abbrev pub hint_text : Hint → List ℕ
hint_text (hint.Sentence sentence) = sentence.now
hint_text (hint.Cause cause) = codes "see bootimg explain " ++ name_of cause
hint_text (hint.Message given) = message_hint given
hint_text (hint.Refused refused) = refused_text (refused_model refused)
