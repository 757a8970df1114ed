use Rattle.std.specs.Prelude.{List, [], ◌∷◌, ◌++◌, ℕ, Option, None, Some, codes, map}
use Rattle.std.specs.Prelude.{Bool, true, ◌≡◌, ◌⊎◌, ◌==◌, ◌&&◌, length, take, drop}
use Rattle.std.specs.List.{find, flat_map}
use Rattle.std.specs.Str.{str_eq_ignore_ascii_case}
use Rattle.bi_base.specs.Causes.{name_of}
use Rattle.bi_base.specs.declared.fault.Cause.{Cause}
use Rattle.bi_base.specs.declared.fault.Cause.TheVariants.{Truncated, BadMagic, BadHeaderCrc}
use Rattle.bi_base.specs.declared.fault.Cause.TheVariants.{BadDataCrc, BadPartTable, BadPart}
use Rattle.bi_base.specs.declared.fault.Cause.TheVariants.{BadTotalSize, BadVersion, BadOffset}
use Rattle.bi_base.specs.declared.fault.Cause.TheVariants.{BadToken, BadName, BadNameOffset}
use Rattle.bi_base.specs.declared.fault.Cause.TheVariants.{PropertyAfterChild, DuplicateProperty}
use Rattle.bi_base.specs.declared.fault.Cause.TheVariants.{DuplicateNode, TooDeep, NoImages}
use Rattle.bi_base.specs.declared.fault.Cause.TheVariants.{BadCell, NoSize, OutsideFile, TooLarge}
use Rattle.bi_base.specs.declared.fault.Cause.TheVariants.{NoCodeName, TooManyParts, EmptyPart}
use Rattle.bi_base.specs.declared.fault.Cause.TheVariants.{BadField, Unsupported}
use Rattle.bi_commands.specs.CauseSentences.{sentence_of}
use Rattle.bi_commands.specs.ConcernSentences.{sentence_of_kind}
use Rattle.bi_report.specs.Checking.{kind_word}
use Rattle.bi_report.specs.declared.check.ConcernKind.{ConcernKind}
use Rattle.bi_report.specs.declared.check.ConcernKind.TheVariants as kind
use Rattle.bootimg.specs.declared.messages.Message.{Message}
use Rattle.bootimg.specs.declared.messages.Message.TheVariants as message
use Rattle.bootimg.specs.declared.explanations.Topic.{Topic}
use Rattle.bootimg.specs.declared.explanations.Topic.TheVariants as topic

-- What `explain` writes (profile of this project).

-- The causes, in the order of the manual page.
abbrev pub all_causes : List Cause
all_causes =
    Truncated ∷ BadMagic ∷ BadHeaderCrc ∷ BadDataCrc ∷ BadPartTable ∷ BadPart ∷ BadTotalSize ∷
    BadVersion ∷ BadOffset ∷ BadToken ∷ BadName ∷ BadNameOffset ∷ PropertyAfterChild ∷
    DuplicateProperty ∷ DuplicateNode ∷ TooDeep ∷ NoImages ∷ BadCell ∷ NoSize ∷ OutsideFile ∷
    TooLarge ∷ NoCodeName ∷ TooManyParts ∷ EmptyPart ∷ BadField ∷ Unsupported ∷ []

-- The kinds of concerns, in the order of the manual page.
abbrev pub all_kinds : List ConcernKind
all_kinds =
    kind.BadHash ∷ kind.SkippedHash ∷ kind.Unhashed ∷ kind.WeakHash ∷ kind.BadList ∷ kind.Missing ∷
    kind.Unsigned ∷ kind.NoNodes ∷ kind.NoImages ∷ kind.Uncovered ∷ kind.Foreign ∷ kind.Strings ∷
    kind.UnitAddress ∷ kind.BadDefault ∷ kind.Trailing ∷ []

-- The messages that have no cause.
abbrev pub all_messages : List Message
all_messages =
    message.BadValue ∷ message.BadImage ∷ message.BadConfiguration ∷ message.CannotOpen ∷
    message.ReadFailed ∷ message.WriteFailed ∷ message.OutOfMemory ∷ []

-- The words of a message. A number or a name may follow them.
abbrev pub name_of_message : Message → List ℕ
name_of_message message.BadValue = codes "bad value"
name_of_message message.BadImage = codes "bad image"
name_of_message message.BadConfiguration = codes "bad configuration"
name_of_message message.CannotOpen = codes "cannot be opened"
name_of_message message.ReadFailed = codes "read failed"
name_of_message message.WriteFailed = codes "write failed"
name_of_message message.OutOfMemory = codes "out of memory"

-- What a message means, and what a user can do.
abbrev pub sentence_of_message : Message → List ℕ
sentence_of_message message.BadValue =
    codes "An option or an argument has a form that the command does not take, or a number "
    ++ codes "that is too large: bootimg COMMAND --help says what it takes."
sentence_of_message message.BadImage =
    codes "The image word with this number, counted from 0, does not have the fields of an "
    ++ (codes "image, or one of them has an unknown name: bootimg build-fit --help says what an "
    ++ codes "image word is.")
sentence_of_message message.BadConfiguration =
    codes "The --config with this number, counted from 0, has another form, or it names an "
    ++ codes "image that is not built: bootimg build-fit --help says what it takes."
sentence_of_message message.CannotOpen =
    codes "The file is not there, or this user may not read it: check its name and its "
    ++ codes "permissions."
sentence_of_message message.ReadFailed =
    codes "The file, pipe or device failed before its end: read it again, or copy it to "
    ++ codes "another place first."
sentence_of_message message.WriteFailed =
    codes "The output could not be written as a whole, for example because a disk is full or a "
    ++ codes "pipe was closed. A file that -o names is as it was."
sentence_of_message message.OutOfMemory =
    codes "This process may not have as much memory as the file needs: free memory, or raise "
    ++ codes "the limit of the process."

-- The causes, and then the kinds.
abbrev pub listed_topics : List Topic
listed_topics = map topic.Cause all_causes ++ map topic.Kind all_kinds

-- What `explain` can explain.
abbrev pub all_topics : List Topic
all_topics = listed_topics ++ map topic.Message all_messages

-- The name of a topic: that of a cause, the word for a kind, or the words of a message.
abbrev pub name_of_topic : Topic → List ℕ
name_of_topic (topic.Cause given) = name_of given
name_of_topic (topic.Kind given) = kind_word given
name_of_topic (topic.Message given) = name_of_message given

-- What it means, and what a user can do.
abbrev pub sentence_about : Topic → List ℕ
sentence_about (topic.Cause given) = sentence_of given
sentence_about (topic.Kind given) = sentence_of_kind given
sentence_about (topic.Message given) = sentence_of_message given

-- What it means, as a line.
abbrev pub explanation_of : Topic → List ℕ
explanation_of given = sentence_about given ++ 10 ∷ []

-- What it means, as a line that begins with its name.
abbrev pub line_of_topic : Topic → List ℕ
line_of_topic given = name_of_topic given ++ (codes ": " ++ explanation_of given)

-- A line for each cause, and then for each kind.
abbrev pub all_explanations : List ℕ
all_explanations = flat_map line_of_topic listed_topics

-- What `explain` writes for this, or without an argument.
abbrev pub explain_text : Option Topic → List ℕ
explain_text None = all_explanations
explain_text (Some given) = explanation_of given

-- ---- which topic a message is about

-- A text ends with what follows a colon and a space.
pub record FollowsColon (text said : List ℕ) : Type 0 where
  pub before : List ℕ
  pub is : text ≡ before ++ (codes ": " ++ said)

-- What a text says after its last colon and space, or all of it if it has none. The program puts a
-- colon and a space after its own name and after that of a file.
pub record IsLastSaid (text said : List ℕ) : Type 0 where
  pub is_end : (text ≡ said) ⊎ FollowsColon text said
  pub is_last : (later : List ℕ) → ¬ (FollowsColon said later)

-- Whether nothing or a space is at the beginning of a text.
abbrev pub ends_word : List ℕ → Bool
ends_word [] = true
ends_word (byte ∷ later) = byte == 32

-- Whether a text begins with this name, in capitals or small letters, and the name ends there: the
-- text ends with it, or a space follows.
abbrev pub begins_with_words : (text name : List ℕ) → Bool
begins_with_words text name =
    str_eq_ignore_ascii_case (take (length name) text) name && ends_word (drop (length name) text)

-- The topic whose name a text begins with, if there is one.
abbrev pub topic_of : List ℕ → Option Topic
topic_of text = find (λ given. begins_with_words text (name_of_topic given)) all_topics

-- A message, as the program prints it or without what is before its last colon, is about this.
pub record IsAbout (text : List ℕ) (given : Topic) : Type 0 where
  pub said : List ℕ
  pub is_said : IsLastSaid text said
  pub topic : topic_of said ≡ Some given
