use Rattle.std.specs.Prelude.{◌≡◌, ◌<◌, ◌⊎◌, ℕ, Bool, true, false, List, [], ◌∷◌, ◌++◌, Option}
use Rattle.std.specs.Prelude.{None, Some, IfSome}
use Rattle.std.specs.Prelude.{Result, Ok, Err, bytes_eq, codes}
use Rattle.std.specs.Prelude.{if◌then◌else◌, length, map, drop, flat_map}
use Rattle.std.specs.Global.{Vec}
use Rattle.bi_base.specs.Commands.{CommandPromise, unit_promise}
use Rattle.bi_base.specs.Limits.{Limits, widest}
use Rattle.bi_base.specs.Reading.{too_large}
use Rattle.bi_base.specs.declared.fault.Cause.TheVariants.{BadDataCrc, BadMagic, BadNameOffset}
use Rattle.bi_base.specs.declared.fault.Cause.TheVariants.{TooLarge, Truncated}
use Rattle.bi_base.specs.declared.fault.Error.{Error}
use Rattle.bi_base.specs.declared.fault.Error.TheVariants.{Refused}
use Rattle.bi_base.specs.declared.fault.Fault.{Fault}
use Rattle.bi_blob.specs.KnownTexts.{smallest_text}
use Rattle.bi_commands.specs.KnownChoices.{lent}
use Rattle.bi_common.specs.KnownWords.{lines}
use Rattle.bi_common.specs.declared.format.Format.TheVariants.{Lines, Json}
use Rattle.bi_describe.specs.declared.compare.CompareError.TheVariants.{One, Other}
use Rattle.bi_describe.specs.declared.ignored.Ignored.{Ignored as IgnoredWord}
use Rattle.bi_describe.specs.DeepComparing.{AreComparedDeepWithout, IsDeepComparison}
use Rattle.bi_describe.specs.KnownComparedWithout.{node_a, options_with}
use Rattle.bi_files.specs.Files.{FileStep, KnownFiles, NoFile, NotOpened, RegularFile}
use Rattle.bi_fit.specs.KnownFiles.{bare_file}
use Rattle.bi_legacy.specs.KnownFaults.{limited_to}
use Rattle.bi_legacy.specs.KnownFiles.{kernel_file_with_rest}
use Rattle.bi_legacy.specs.KnownImages.{kernel_file, multi_file}
use Rattle.bi_norm.specs.KnownComparisons.{file_without_magic, no_magic}
use Rattle.bootimg.specs.ComparedFiles.{IsCompareFailure, IsCompareOutput}
use Rattle.bootimg.specs.Explanations.{IsAbout, all_topics, explain_text, line_of_topic}
use Rattle.bootimg.specs.Explanations.{listed_topics, name_of_topic}
use Rattle.bootimg.specs.CommandLine.{NoneIs}
use Rattle.bootimg.specs.declared.messages.Message.TheVariants as message
use Rattle.bootimg.specs.declared.explanations.Topic.{Topic}
use Rattle.bootimg.specs.declared.explanations.Topic.TheVariants as topic
use Rattle.bi_report.specs.declared.check.ConcernKind.TheVariants as kind
use Rattle.bootimg.specs.KnownRequests.{IsFileNamed}
use Rattle.bootimg.specs.KnownRuns.{compared_plan}
use Rattle.bootimg.specs.Offsets.{HasImageAt, promise_at}
use Rattle.bootimg.specs.Runs.{IsCompareWork, Work, source_failure}
use Rattle.bootimg.specs.declared.command_line.source.ImageSource.TheVariants.{File}
use Rattle.bootimg.specs.declared.failure.Failure.TheVariants.{CannotOpen}
use Rattle.bootimg.specs.declared.jobs.SourceFailure.{SourceFailure}
use Rattle.bootimg.specs.declared.tasks.Done.{Done}

-- Which inputs `compare` reads, in which order, and which images commands take from an input; and
-- what `explain` writes. A reader can judge the definitions by them.

-- ---- compare

-- There is no file, or only this one, or there are two, `a` and `b`.
abbrev pub without_files : KnownFiles
without_files = Some (λ name. NoFile)

abbrev pub one_file : (name bytes : List ℕ) → KnownFiles
one_file name bytes = Some (λ other. if bytes_eq other name then RegularFile bytes else NoFile)

abbrev pub two_files : (a b : List ℕ) → KnownFiles
two_files a b = Some
    (λ name. if bytes_eq name (codes "a") then RegularFile a
    else if bytes_eq name (codes "b") then RegularFile b else NoFile)

-- `compare a b` did this under a limit of 64 bytes, whatever it left out. No step with a file was
-- taken before.
abbrev pub ComparesFiles : (ignored : Vec IgnoredWord) → KnownFiles → Work
    → (new : Option (List FileStep)) → Type 0
ComparesFiles ignored files work new =
    IsCompareWork files (compared_plan ignored) (limited_to 64) work (Some []) new

-- It failed, and the failure is about the file of this name.
abbrev pub FailsAbout : (name : List ℕ) → Result Done SourceFailure → Type 0
FailsAbout name (Ok done) = ⊥
FailsAbout name (Err failed) = IsFileNamed name failed.source

-- The file of this name could not be opened.
abbrev pub FailsToOpen : (name : List ℕ) → Result Done SourceFailure → Type 0
FailsToOpen name outcome = outcome ≡ Err (source_failure (File (lent name)) CannotOpen)

-- The first file is opened before the second one, which is not opened if the first one is not read.
-- The limit holds for both.
pub record ComparedInputsAreKnown (ignored : Vec IgnoredWord) : Type 0 where
  pub no_files : (work : Work) (new : Option (List FileStep))
      → ComparesFiles ignored without_files work new → FailsToOpen (codes "a") work.outcome
      × IfSome new (λ steps. steps ≡ NotOpened (codes "a") ∷ [])
  pub only_other : (work : Work) (new : Option (List FileStep))
      → ComparesFiles ignored (one_file (codes "b") []) work new
      → FailsToOpen (codes "a") work.outcome
  pub only_one : (work : Work) (new : Option (List FileStep))
      → ComparesFiles ignored (one_file (codes "a") []) work new
      → FailsAbout (codes "a") work.outcome ⊎ FailsToOpen (codes "b") work.outcome
  pub one_too_long : (bytes : List ℕ) → 64 < length bytes → (work : Work)
      (new : Option (List FileStep)) → ComparesFiles ignored (two_files bytes []) work new
      → FailsAbout (codes "a") work.outcome
  pub other_too_long : (bytes : List ℕ) → 64 < length bytes → (work : Work)
      (new : Option (List FileStep)) → ComparesFiles ignored (two_files [] bytes) work new
      → FailsAbout (codes "a") work.outcome ⊎ FailsAbout (codes "b") work.outcome

-- With `--quiet` nothing is written, and files that cannot be described are compared all the same,
-- unless something is left out. The description of the kernel image is longer than 191 bytes.
pub record ComparedOutputsAreKnown : Type 0 where
  pub quiet : (same : Bool) (text : List ℕ)
      → IsCompareOutput [] true false Json widest kernel_file multi_file same text
      → (same ≡ false) × (text ≡ [])
  pub quiet_same : IsCompareOutput [] true false Lines widest kernel_file_with_rest kernel_file
      true []
  pub differences : IsCompareOutput [] false false Lines widest smallest_text bare_file false
      (lines (codes "+node /images/a" ∷ codes "+payload /images/a none" ∷ []))
  pub ignored : IsCompareOutput (node_a ∷ []) false false Json widest smallest_text bare_file true
      (lines (codes "{\"same\":true,\"differences\":[]}" ∷ []))
  pub not_read : IsCompareFailure [] true false widest file_without_magic kernel_file (One no_magic)
  pub other_not_read : IsCompareFailure [] false false widest kernel_file file_without_magic
      (Other no_magic)
  pub ignored_not_described : IsCompareFailure (node_a ∷ []) true false (limited_to 191) kernel_file
      kernel_file (One (too_large 191))
  pub not_described : IsCompareFailure [] false false (limited_to 88) kernel_file smallest_text
      (One (too_large 88))
  pub other_not_described : IsCompareFailure [] false false (limited_to 88) smallest_text
      kernel_file (Other (too_large 88))
  pub quiet_described : (fault : Fault)
      → ¬ (IsCompareFailure [] true false (limited_to 88) kernel_file smallest_text (One fault))
  pub quiet_other_described : (fault : Fault)
      → ¬ (IsCompareFailure [] true false (limited_to 88) smallest_text kernel_file (Other fault))

-- With `--deep` what is inside payloads is compared too, also if something is left out. With
-- `--quiet` alone nothing is described.
pub record DeepOutputsAreKnown : Type 0 where
  pub quiet : IsCompareOutput [] true true Lines widest kernel_file_with_rest kernel_file true []
  pub same : IsCompareOutput [] false true Json widest kernel_file_with_rest kernel_file true
      (lines (codes "{\"same\":true,\"differences\":[]}" ∷ []))
  pub deep : (one other : List ℕ) (same : Bool) (text : List ℕ)
      → IsDeepComparison Json widest one other same text
      → IsCompareOutput [] false true Json widest one other same text
  pub ignored : (one other : List ℕ) (same : Bool) (text : List ℕ)
      → AreComparedDeepWithout (options_with (node_a ∷ []) true Lines) widest one other same text
      → IsCompareOutput (node_a ∷ []) true true Lines widest one other same text
  pub not_read : IsCompareFailure [] true true widest file_without_magic kernel_file (One no_magic)
  pub other_not_read : IsCompareFailure [] false true widest kernel_file file_without_magic
      (Other no_magic)
  pub ignored_not_read : IsCompareFailure (node_a ∷ []) true true widest file_without_magic
      kernel_file (One no_magic)
  pub quiet_described : (fault : Fault)
      → ¬ (IsCompareFailure [] true true (limited_to 88) kernel_file smallest_text (One fault))

-- ---- offsets

-- The image at this offset of an input is this one.
abbrev pub HasThisImage : (offset : ℕ) → (input image : List ℕ) → Type 0
HasThisImage offset input image = HasImageAt widest offset (λ other. other ≡ image) input

-- A command whose output is its input, and which has an error for it: that it is too large for a
-- limit of its own length.
abbrev pub copy_promise : Limits → CommandPromise (Unit {0}) Error
copy_promise limits = unit_promise (λ input output. output ≡ input)
    (λ input error. error ≡ Refused (too_large (length input)))

-- What the command promises of `abcde` at the offset 3.
abbrev pub copy_at_three : CommandPromise (Unit {0}) Error
copy_at_three = promise_at 3 copy_promise widest

-- The image at an offset is the input from there on, or nothing if the input ends before. The limit
-- is on the whole input.
pub record ImagesAtAreKnown : Type 0 where
  pub first : HasThisImage 0 (codes "abcde") (codes "abcde")
  pub later : HasThisImage 3 (codes "abcde") (codes "de")
  pub at_end : HasThisImage 5 (codes "abcde") []
  pub past_end : HasThisImage 7 (codes "abcde") []
  pub only : (image : List ℕ) → HasThisImage 3 (codes "abcde") image → image ≡ codes "de"
  pub too_long : (image : List ℕ)
      → ¬ (HasImageAt (limited_to 64) 60 (λ other. other ≡ image)
      (codes "0123456789abcdef0123456789abcdef0123456789abcdef0123456789abcdef0"))
  pub output : (output : List ℕ) → copy_at_three.is_output tt (codes "abcde") output
      → output ≡ codes "de"
  pub text : (output : List ℕ) → copy_at_three.is_text (codes "abcde") output
      → output ≡ codes "de"
  pub error : (error : Error) → copy_at_three.has_error (codes "abcde") error
      → error ≡ Refused (too_large 2)

-- ---- explain

-- The names of the causes, in the order of the manual page.
abbrev pub cause_names : List (List ℕ)
cause_names =
    codes "Truncated" ∷ codes "BadMagic" ∷ codes "BadHeaderCrc" ∷ codes "BadDataCrc"
    ∷ codes "BadPartTable" ∷ codes "BadPart" ∷ codes "BadTotalSize" ∷ codes "BadVersion"
    ∷ codes "BadOffset" ∷ codes "BadToken" ∷ codes "BadName" ∷ codes "BadNameOffset"
    ∷ codes "PropertyAfterChild" ∷ codes "DuplicateProperty" ∷ codes "DuplicateNode"
    ∷ codes "TooDeep" ∷ codes "NoImages" ∷ codes "BadCell" ∷ codes "NoSize" ∷ codes "OutsideFile"
    ∷ codes "TooLarge" ∷ codes "NoCodeName" ∷ codes "TooManyParts" ∷ codes "EmptyPart"
    ∷ codes "BadField" ∷ codes "Unsupported" ∷ []

-- The words for the kinds of concerns, in the order of the manual page.
abbrev pub kind_names : List (List ℕ)
kind_names =
    codes "bad-hash" ∷ codes "skipped-hash" ∷ codes "unhashed" ∷ codes "weak-hash"
    ∷ codes "bad-list" ∷ codes "missing" ∷ codes "unsigned" ∷ codes "no-nodes"
    ∷ codes "no-images" ∷ codes "uncovered" ∷ codes "foreign" ∷ codes "strings"
    ∷ codes "unit-address" ∷ codes "bad-default" ∷ codes "trailing" ∷ []

-- The words of the other messages.
abbrev pub message_names : List (List ℕ)
message_names =
    codes "bad value" ∷ codes "bad image" ∷ codes "bad configuration" ∷ codes "cannot be opened"
    ∷ codes "read failed" ∷ codes "write failed" ∷ codes "out of memory" ∷ []

-- What `explain` writes for a cause, a kind of concerns or another message is one line. Without an
-- argument it writes a line for each cause and each kind, which begins with its name.
pub record ExplanationsAreKnown : Type 0 where
  pub one : explain_text (Some (topic.Cause BadDataCrc))
      ≡ lines
      (codes "The data checksum of a legacy image is wrong: fetch the image again."
      ∷ [])
  pub other : explain_text (Some (topic.Cause BadMagic))
      ≡ codes "The file is not of a kind that the command reads: decompress it if it is "
      ++ (codes "compressed, or remove what is before the image. convert reads only legacy "
      ++ codes "images.\n")
  pub line : line_of_topic (topic.Cause BadDataCrc)
      ≡ codes "BadDataCrc: The data checksum of a legacy image is wrong: "
      ++ codes "fetch the image again.\n"
  pub concern : explain_text (Some (topic.Kind kind.Foreign))
      ≡ codes "A signature of a configuration covers a node that the configuration does not "
      ++ (codes "use. A newer U-Boot makes the list of nodes itself, and then finds the signature "
      ++ codes "wrong: sign the image again with mkimage -F -k.\n")
  pub message : explain_text (Some (topic.Message message.CannotOpen))
      ≡ codes "The file is not there, or this user may not read it: check its name and its "
      ++ codes "permissions.\n"
  pub names : map name_of_topic all_topics ≡ cause_names ++ (kind_names ++ message_names)
  pub all : explain_text None
      ≡ codes "Truncated: The file ends before something that it must hold, for example before "
      ++ (codes "the end of the data of a legacy image: copy it again, as a whole.\n"
      ++ flat_map line_of_topic (drop 1 listed_topics))

-- The argument of `explain` is a name, in capitals or small letters, or a line of the program.
pub record MessagesAreKnown : Type 0 where
  pub name : IsAbout (codes "Truncated") (topic.Cause Truncated)
  pub letters : IsAbout (codes "badMAGIC") (topic.Cause BadMagic)
  pub offset : IsAbout (codes "Truncated at 12") (topic.Cause Truncated)
  pub line : IsAbout (codes "bootimg: a.itb: TooLarge at 64") (topic.Cause TooLarge)
  pub longer : IsAbout (codes "bootimg: BadNameOffset at 8") (topic.Cause BadNameOffset)
  pub concern : IsAbout (codes "a.itb: weak-hash k crc32") (topic.Kind kind.WeakHash)
  pub usage : IsAbout (codes "bootimg: usage: bad image 3") (topic.Message message.BadImage)
  pub words : IsAbout (codes "write failed") (topic.Message message.WriteFailed)
  pub one : (text : List ℕ) (given other : Topic) → IsAbout text given → IsAbout text other
      → given ≡ other
  pub longer_name : NoneIs (IsAbout (codes "Truncatedness"))
  pub two_colons : NoneIs (IsAbout (codes "Truncated: bootimg"))
  pub empty : NoneIs (IsAbout [])
