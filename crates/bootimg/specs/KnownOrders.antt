use Rattle.std.specs.Prelude.{◌≡◌, ◌⊎◌, ◌∷◌, ℕ, List, [], Some, codes, option_map}
use Rattle.std.specs.Borrow.{Bor}
use Rattle.bi_base.specs.declared.fault.Error.TheVariants.{OutOfMemory}
use Rattle.bi_common.specs.declared.format.Format.TheVariants.{Json}
use Rattle.bootimg.specs.KnownWords.{words_of_line}
use Rattle.bi_legacy.specs.KnownFaults.{limited_to}
use Rattle.clap.specs.declared.error.kind.ErrorKind.{ErrorKind}
use Rattle.clap.specs.declared.error.kind.ErrorKind.TheVariants.{DisplayHelp, DisplayVersion}
use Rattle.bootimg.specs.CommandLine.{IsAllRequested, IsImagesRequested, IsRejected, IsRequest}
use Rattle.bootimg.specs.CommandLine.{IsTextFor}
use Rattle.bootimg.specs.KnownRequests.{IsAllOf, IsFileNamed}
use Rattle.bootimg.specs.declared.command_line.Job.{Job}
use Rattle.bootimg.specs.declared.command_line.Job.TheVariants.{Run}
use Rattle.bootimg.specs.declared.command_line.Request.{Request}
use Rattle.bootimg.specs.declared.command_line.Task.TheVariants as task
use Rattle.bootimg.specs.declared.command_line.extract.AllRequest.{AllRequest}
use Rattle.bootimg.specs.declared.command_line.images.ImagesRequest.{ImagesRequest}
use Rattle.bootimg.specs.declared.command_line.source.ImageSource.TheVariants.{File, Standard}
use Rattle.bootimg.specs.declared.failure.Failure.{Failure}
use Rattle.bootimg.specs.declared.failure.Failure.TheVariants.{BadValue, Call, NoChange}

-- Whole command lines with what they request, or why they request nothing, by which a reader can
-- judge the definitions.

-- The job is to list, as JSON, the image at offset 7 of the file `in`.
abbrev pub IsListOfFile : Job → Type 0
IsListOfFile (Run plan) =
    (plan.task ≡ task.List Json) × (plan.offset ≡ 7) × IsFileNamed (codes "in") plan.source
IsListOfFile job = ⊥

-- The request is to do that within 64 bytes, with the output in the file `out`.
pub record IsListRequest (request : Request) : Type 0 where
  pub job : IsListOfFile request.job
  pub limits : request.limits ≡ limited_to 64
  pub output : option_map (λ name. name.now) request.output ≡ Some (codes "out")

-- The request is to verify, as JSON, the file of this name and standard input.
abbrev pub AreFileAndInput : List ℕ → ImagesRequest → Type 0
AreFileAndInput name request =
    (request.task ≡ task.Verify Json) × (file : Bor (List ℕ)) × (file.now ≡ name)
    × (request.sources.items ≡ File file ∷ Standard ∷ [])

-- What command lines request.
pub record RequestsAreKnown : Type 0 where
  pub list : (request : Request)
      → IsRequest (words_of_line (codes "list --json --offset 7 --limit 64 -o out in")) request
      → IsListRequest request
  pub all : (request : AllRequest)
      → IsAllRequested (words_of_line (codes "extract --all -o d --offset 7 in")) request
      → IsAllOf (codes "d") 7 (codes "in") request
  pub not_all : (request : AllRequest)
      → ¬ (IsAllRequested (words_of_line (codes "extract --part 0 in")) request)
  pub several : (request : ImagesRequest)
      → IsImagesRequested (words_of_line (codes "verify --json a -")) request
      → AreFileAndInput (codes "a") request
  pub not_several : (request : ImagesRequest)
      → ¬ (IsImagesRequested (words_of_line (codes "verify a")) request)
  pub not_one : (request : Request)
      → ¬ (IsRequest (words_of_line (codes "verify --json a -")) request)

-- A command line is rejected for this reason, or since memory ran out.
abbrev pub IsRejectedFor : (line : List ℕ) → Failure → Type 0
IsRejectedFor line wanted = (failure : Failure) → IsRejected (words_of_line line) failure
    → (failure ≡ wanted) ⊎ (failure ≡ Call OutOfMemory)

-- clap has a text of this kind for a command line, and of no other kind.
pub record HasOnlyText (line : List ℕ) (kind : ErrorKind) : Type 0 where
  pub is : IsTextFor (words_of_line line) kind
  pub only : (other : ErrorKind) → IsTextFor (words_of_line line) other → other ≡ kind

-- Why command lines request nothing.
pub record RejectionsAreKnown : Type 0 where
  pub no_change : IsRejectedFor (codes "update") NoChange
  pub change_before_limit : IsRejectedFor (codes "update --limit 1") NoChange
  pub bad_limit : IsRejectedFor (codes "scan --limit 1") BadValue
  pub no_directory : IsRejectedFor (codes "extract --all in") BadValue
  pub two_inputs : IsRejectedFor (codes "list - -") BadValue
  pub version : HasOnlyText (codes "--version") DisplayVersion
  pub help : HasOnlyText (codes "--help") DisplayHelp
  pub help_of_command : HasOnlyText (codes "list --help") DisplayHelp
  pub no_text : (kind : ErrorKind) → ¬ (IsTextFor (words_of_line (codes "list in")) kind)
