use Rattle.std.specs.Prelude.{◌≡◌, true, false, Bool, List, [], ◌∷◌, codes, Result, Ok, Err}
use Rattle.bi_base.specs.declared.fault.Error.TheVariants.{OutOfMemory, ReadFailed, Refused}
use Rattle.bi_base.specs.declared.fault.Error.TheVariants.{WriteFailed}
use Rattle.bi_commands.specs.KnownChoices.{lent}
use Rattle.bi_files.specs.Files.{KnownFiles}
use Rattle.bi_labels.specs.InTurn.{AreDoneInTurn}
use Rattle.bootimg.specs.declared.command_line.images.ImagesRequest.{ImagesRequest}
use Rattle.bootimg.specs.declared.command_line.source.ImageSource.{ImageSource}
use Rattle.bootimg.specs.declared.command_line.source.ImageSource.TheVariants.{File, Standard}
use Rattle.bootimg.specs.declared.failure.Failure.{Failure}
use Rattle.bootimg.specs.declared.failure.Failure.TheVariants.{Call, CannotOpen}
use Rattle.bootimg.specs.declared.jobs.SourceFailure.{SourceFailure}
use Rattle.bootimg.specs.declared.tasks.Done.{Done}
use Rattle.bootimg.specs.KnownRuns.{bad_magic, file_r1}
use Rattle.bootimg.specs.Runs.{source_failure}
use Rattle.bootimg.specs.SeveralImages.{IsImageDone, Streams, greatest_status, is_last}
use Rattle.bootimg.specs.SeveralImages.{reported_outcome}
use Rattle.bootimg.specs.SeveralImages.{source_text}

-- Runs over several images, by which a reader can judge the definitions.

-- The end of the work on an image with this answer, and failures with the file `r1`.
abbrev pub answer : Done → Bool → Result Done SourceFailure
answer done good = Ok (record done { good = good })

abbrev pub failed_r1 : Failure → Result Done SourceFailure
failed_r1 failure = Err (source_failure file_r1 failure)

-- An image has a name, and the status is the greatest. No image follows after a failed write, or if
-- memory ran out, and one after any other outcome.
pub record ImageOutcomesAreKnown : Type 0 where
  pub file : source_text file_r1 ≡ codes "r1"
  pub shown : source_text (File (lent (codes "a b"))) ≡ codes "a%20b"
  pub input : source_text Standard ≡ codes "-"
  pub none : greatest_status [] ≡ 0
  pub good : (done : Done) → greatest_status (answer done true ∷ answer done true ∷ []) ≡ 0
  pub not_good : (done : Done) → greatest_status (answer done false ∷ answer done true ∷ []) ≡ 1
  pub failed : (done : Done)
      → greatest_status (answer done false ∷ failed_r1 CannotOpen ∷ answer done true ∷ []) ≡ 2
  pub follows : (done : Done) → is_last (answer done false) ≡ false
  pub after_refusal : is_last (failed_r1 (Call (Refused bad_magic))) ≡ false
  pub after_read : is_last (failed_r1 (Call ReadFailed)) ≡ false
  pub after_missing_file : is_last (failed_r1 CannotOpen) ≡ false
  pub after_write : is_last (failed_r1 (Call WriteFailed)) ≡ true
  pub after_memory : is_last (failed_r1 (Call OutOfMemory)) ≡ true
  pub held_write : reported_outcome true (failed_r1 (Call WriteFailed))
      ≡ failed_r1 (Call OutOfMemory)
  pub held_refusal : reported_outcome true (failed_r1 (Call (Refused bad_magic)))
      ≡ failed_r1 (Call (Refused bad_magic))

-- Two images, of which the first has this outcome, were done in turn with these outcomes.
abbrev pub AreTwoDone : KnownFiles → (hints : Bool) → ImagesRequest → (one other : ImageSource)
    → (outcome : Result Done SourceFailure) → (later : List (Result Done SourceFailure))
    → (old new : Streams) → Type 0
AreTwoDone files hints request one other outcome later old new =
    AreDoneInTurn (IsImageDone files hints request false) is_last (one ∷ other ∷ [])
    (outcome ∷ later)
    old new

-- The second image follows after a refusal of the first, and not after a failed write.
pub record NextImagesAreKnown : Type 0 where
  pub after_refusal : (files : KnownFiles) (hints : Bool) (request : ImagesRequest)
      (other : ImageSource) (later : List (Result Done SourceFailure)) (old new : Streams)
      → AreTwoDone files hints request file_r1 other (failed_r1 (Call (Refused bad_magic))) later
      old new
      → (outcome : Result Done SourceFailure) × (later ≡ outcome ∷ [])
  pub after_write : (files : KnownFiles) (hints : Bool) (request : ImagesRequest)
      (other : ImageSource) (later : List (Result Done SourceFailure)) (old new : Streams)
      → AreTwoDone files hints request file_r1 other (failed_r1 (Call WriteFailed)) later old new
      → later ≡ []
