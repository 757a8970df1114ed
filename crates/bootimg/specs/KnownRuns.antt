use Rattle.std.specs.Prelude.{◌≡◌, ℕ, Bool, true, false, List, Option, codes, Ok, Err}
use Rattle.std.specs.Global.{Vec}
use Rattle.bi_base.specs.declared.fault.Cause.TheVariants.{BadMagic, BadHeaderCrc, TooLarge}
use Rattle.bi_base.specs.declared.fault.Error.TheVariants.{Refused, OutOfMemory, ReadFailed}
use Rattle.bi_base.specs.declared.fault.Error.TheVariants.{WriteFailed}
use Rattle.bi_base.specs.declared.fault.Fault.{Fault}
use Rattle.bi_base.specs.Traces.{WriteTrace}
use Rattle.bi_common.specs.declared.format.Format.TheVariants.{Lines}
use Rattle.bi_describe.specs.declared.compare.CompareError.{CompareError}
use Rattle.bi_describe.specs.declared.compare.CompareError.TheVariants as compare
use Rattle.bi_describe.specs.declared.ignored.Ignored.{Ignored}
use Rattle.bi_commands.specs.KnownChoices.{lent}
use Rattle.bi_commands.specs.declared.extract.ExtractError.{ExtractError}
use Rattle.bi_commands.specs.declared.extract.ExtractError.TheVariants as extract
use Rattle.bi_fit.specs.declared.configurations.ConfigError.TheVariants as list
use Rattle.clap.specs.declared.error.kind.ErrorKind.{ErrorKind}
use Rattle.bootimg.specs.ComparedFiles.{failure_of_comparing, refused_source}
use Rattle.bootimg.specs.Failures.{failure_of}
use Rattle.bootimg.specs.Runs.{failure_line, note_line, alignment_line, inside_line}
use Rattle.bootimg.specs.Runs.{positions_line, IsEnd}
use Rattle.bootimg.specs.Runs.{IsMistake, IsRejection, IsTextRun, Run}
use Rattle.bootimg.specs.Tasks.{status_of}
use Rattle.bootimg.specs.declared.command_line.values.ValueWords.TheVariants.{Property, Field}
use Rattle.bootimg.specs.declared.command_line.source.ComparePlan.{ComparePlan}
use Rattle.bootimg.specs.declared.command_line.source.ImageSource.{ImageSource}
use Rattle.bootimg.specs.declared.command_line.source.ImageSource.TheVariants.{Standard, File}
use Rattle.bootimg.specs.declared.failure.Failure.{Failure}
use Rattle.bootimg.specs.declared.jobs.SourceFailure.{SourceFailure}
use Rattle.bootimg.specs.declared.failure.Failure.TheVariants.{Call, NoSelection, NoChange}
use Rattle.bootimg.specs.declared.failure.Failure.TheVariants.{BadValue, BadImage, CannotOpen}
use Rattle.bootimg.specs.declared.failure.Failure.TheVariants.{BadConfiguration}
use Rattle.bootimg.specs.declared.failure.Failure.TheVariants.{NoProperty, NoText, NoNumber}
use Rattle.bootimg.specs.declared.failure.Failure.TheVariants.{NothingToRemove, NotWritten}
use Rattle.bootimg.specs.declared.failure.Failure.TheVariants.{OutputIsTerminal}
use Rattle.bootimg.specs.declared.tasks.Done.{Done}

-- How runs end, by which a reader can judge the definitions.

-- The exit status is 0 after a good answer, 1 after one that is not good, and 2 after a failure or
-- if the arguments are rejected or wrong.
pub record StatusesAreKnown : Type 0 where
  pub good : status_of true ≡ 0
  pub not_good : status_of false ≡ 1
  pub done : (hints : Bool) (errors new_errors : WriteTrace) (status : ℕ) (done : Done)
      → IsEnd hints errors new_errors status (Ok done) → status ≡ status_of done.good
  pub failed : (hints : Bool) (errors new_errors : WriteTrace) (status : ℕ)
      (failed : SourceFailure) → IsEnd hints errors new_errors status (Err failed) → status ≡ 2
  pub rejected : (source : ImageSource) (failure : Failure) (hint : Option (List ℕ)) (run : Run)
      → IsRejection source failure hint run → run.status ≡ 2
  pub mistaken : (hints : Bool) (kind : ErrorKind) (text : List ℕ) (run : Run) → IsMistake kind
      → IsTextRun hints kind text run → run.status ≡ 2

-- An image in the file `r1`.
abbrev pub file_r1 : ImageSource
file_r1 = File (lent (codes "r1"))

-- A fault.
abbrev pub bad_magic : Fault
bad_magic = record { cause = BadMagic; offset = 0 }

-- The line of a failure with this file, and that of an error of extracting from it.
abbrev pub line_of_failure : Failure → List ℕ
line_of_failure failure = failure_line file_r1 failure

abbrev pub line_of_extracting : ExtractError → List ℕ
line_of_extracting error = line_of_failure (failure_of error)

-- Each failure has its line. Those about the image or the output file have the name of the file, as
-- names are shown.
pub record FailureLinesAreKnown : Type 0 where
  pub refused : line_of_failure (Call (Refused bad_magic)) ≡ codes "bootimg: r1: BadMagic at 0\n"
  pub refused_at_offset :
      line_of_failure (Call (Refused (record { cause = TooLarge; offset = 2147483647 })))
      ≡ codes "bootimg: r1: TooLarge at 2147483647\n"
  pub out_of_memory : line_of_failure (Call OutOfMemory) ≡ codes "bootimg: out of memory\n"
  pub read_failed : line_of_failure (Call ReadFailed) ≡ codes "bootimg: r1: read failed\n"
  pub write_failed : line_of_failure (Call WriteFailed) ≡ codes "bootimg: write failed\n"
  pub no_selection : line_of_failure NoSelection
      ≡ codes "bootimg: usage: give one of --part, --image, --config\n"
  pub no_change : line_of_failure NoChange ≡ codes "bootimg: usage: give --time or --hashes\n"
  pub bad_value : line_of_failure BadValue ≡ codes "bootimg: usage: bad value\n"
  pub bad_image : line_of_failure (BadImage 10) ≡ codes "bootimg: usage: bad image 10\n"
  pub bad_configuration : line_of_failure (BadConfiguration 3)
      ≡ codes "bootimg: usage: bad configuration 3\n"
  pub nothing_to_remove : line_of_failure (NothingToRemove (lent (codes "/images/a load")))
      ≡ codes "bootimg: r1: nothing to remove /images/a load\n"
  pub cannot_open : line_of_failure CannotOpen ≡ codes "bootimg: r1: cannot be opened\n"
  pub output_is_terminal : line_of_failure OutputIsTerminal
      ≡ codes "bootimg: standard output is a terminal, see -o\n"
  pub not_written : line_of_failure NotWritten ≡ codes "bootimg: r1: write failed\n"
  pub shown_name : failure_line (File (lent (codes "no file"))) CannotOpen
      ≡ codes "bootimg: no%20file: cannot be opened\n"
  pub standard_input : failure_line Standard (Call (Refused bad_magic))
      ≡ codes "bootimg: BadMagic at 0\n"

-- So has each error of extracting.
pub record ExtractLinesAreKnown : Type 0 where
  pub failed : line_of_extracting (extract.Failed (Refused bad_magic))
      ≡ codes "bootimg: r1: BadMagic at 0\n"
  pub wrong_kind : line_of_extracting extract.WrongKind
      ≡ codes "bootimg: r1: the selection does not fit this kind of image\n"
  pub no_part : line_of_extracting extract.NoPart ≡ codes "bootimg: r1: no such part\n"
  pub no_image : line_of_extracting extract.NoImage ≡ codes "bootimg: r1: no such image\n"
  pub no_configuration : line_of_extracting (extract.Config list.NoConfig)
      ≡ codes "bootimg: r1: no such configuration\n"
  pub no_key : line_of_extracting (extract.Config list.NoKey) ≡ codes "bootimg: r1: no such key\n"
  pub bad_list : line_of_extracting (extract.Config list.BadList) ≡ codes "bootimg: r1: bad list\n"
  pub missing : line_of_extracting (extract.Config (list.Missing 1))
      ≡ codes "bootimg: r1: missing image 1\n"
  pub out_of_memory : line_of_extracting (extract.Config list.OutOfMemory)
      ≡ codes "bootimg: out of memory\n"
  pub no_index : line_of_extracting extract.NoIndex ≡ codes "bootimg: r1: no such entry\n"
  pub no_payload : line_of_extracting extract.NoPayload ≡ codes "bootimg: r1: no payload\n"

-- So has each error of getting values, with the words for the value.
pub record ValueLinesAreKnown : Type 0 where
  pub no_property : line_of_failure
      (NoProperty (Property (lent (codes "/images/none")) (lent (codes "x"))))
      ≡ codes "bootimg: r1: no such property /images/none x\n"
  pub no_text : line_of_failure (NoText (Property (lent (codes "/")) (lent (codes "a%20b"))))
      ≡ codes "bootimg: r1: no text / a%20b\n"
  pub no_number : line_of_failure (NoNumber (Field (lent (codes "name"))))
      ≡ codes "bootimg: r1: no number name\n"
  pub of_input : failure_line Standard (NoProperty (Property (lent (codes "/")) (lent (codes "x"))))
      ≡ codes "bootimg: no such property / x\n"

-- The line of an error of comparing `a` and `b`, whatever is left out.
abbrev pub compared_plan : (ignored : Vec Ignored) → ComparePlan
compared_plan ignored = record {
  one = File (lent (codes "a"));
  other = File (lent (codes "b"));
  quiet = false;
  deep = false;
  format = Lines;
  ignored = ignored;
}

abbrev pub line_of_comparing : (ignored : Vec Ignored) → CompareError → List ℕ
line_of_comparing ignored error =
    failure_line (refused_source (compared_plan ignored) error) (failure_of_comparing error)

-- It has the name of the file that is refused.
pub record CompareLinesAreKnown (ignored : Vec Ignored) : Type 0 where
  pub one : line_of_comparing ignored (compare.One bad_magic)
      ≡ codes "bootimg: a: BadMagic at 0\n"
  pub other : line_of_comparing ignored
      (compare.Other (record { cause = BadHeaderCrc; offset = 4 }))
      ≡ codes "bootimg: b: BadHeaderCrc at 4\n"
  pub out_of_memory : line_of_comparing ignored compare.OutOfMemory
      ≡ codes "bootimg: out of memory\n"

-- The notes: on signature nodes, on payloads that are inside the blob, and on what is not kept.
pub record NotesAreKnown : Type 0 where
  pub one : note_line 1 ≡ codes "bootimg: note: 1 signature nodes carried, not checked\n"
  pub many : note_line 12 ≡ codes "bootimg: note: 12 signature nodes carried, not checked\n"
  pub inside : inside_line 2
      ≡ codes "bootimg: note: 2 payloads are inside the blob now, see --external\n"
  pub alignment : alignment_line 4096
      ≡ codes "bootimg: note: payloads are no longer aligned to 4096 bytes, see --align\n"
  pub positions : positions_line 1
      ≡ codes "bootimg: note: 1 fixed positions of payloads were not kept\n"
