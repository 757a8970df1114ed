use Rattle.std.specs.Prelude.{◌≡◌, ◌⊎◌, ◌<◌, ℕ, Bool, List, Option, None, Some, Ok}
use Rattle.std.specs.Borrow.{Bor}
use Rattle.bi_base.specs.Traces.{WriteTrace}
use Rattle.clap.specs.declared.error.kind.ErrorKind.{ErrorKind}
use Rattle.bi_common.specs.Offsets.{input_from}
use Rattle.bi_commands.specs.ExtractingAll.{AreAllPayloads, PayloadFile}
use Rattle.bootimg.specs.declared.command_line.Request.{Request}
use Rattle.bootimg.specs.declared.command_line.extract.AllRequest.{AllRequest}
use Rattle.bootimg.specs.declared.command_line.images.ImagesRequest.{ImagesRequest}
use Rattle.bootimg.specs.declared.tasks.Done.{Done}
use Rattle.bootimg.specs.CommandLine.{IsAllRequested, IsImagesRequested, IsRequest, IsTextFor}
use Rattle.bi_files.specs.Directories.{IsWithoutSlashes}
use Rattle.bi_files.specs.Files.{FileStep, KnownFiles, Names}
use Rattle.bi_files.specs.FilesAfter.{AreSameNames, HasDirectory, HasFile, LeavesNewDirectory}
use Rattle.bi_files.specs.FilesAfter.{LeavesNewFile}
use Rattle.bootimg.specs.Runs.{Inputs, IsHeldWork, IsImageRead}
use Rattle.bootimg.specs.SeveralImages.{AreHeld}
use Rattle.bootimg.specs.Tasks.{status_of}

-- What a run leaves of the files (profile of this project).

-- What has each name before a run with these arguments and after it, for its exit status. `input`
-- is what standard input has, if it is known, and `steps` are those before the run and in it.
pub data LeavesFiles (arguments : List (List ℕ)) (input : Option (List ℕ)) (old new : Names)
    (steps : List FileStep) (status : ℕ) : Type 0 where
  -- The file that is named has the output of the job that is requested, and each other name has
  -- what it had. The status is 0 or 1.
  OutputIsThere : (request : Request) (name : Bor (List ℕ)) (done : Done) (output : List ℕ)
      (before after : Inputs) → IsRequest arguments request → request.output ≡ Some name
      → before.input.remaining ≡ input
      → IsHeldWork (Some old) request.job request.limits before after (Ok done) (Some output)
      → status ≡ status_of done.good → HasFile old new name.now output
      → LeavesFiles arguments input old new steps status
  -- The file that is named has the texts of all images, none of which was refused or failed, and
  -- each other name has what it had. The status is 0 or 1.
  TextsAreThere : (hints : Bool) (request : ImagesRequest) (name : Bor (List ℕ))
      (output : List ℕ) (before after : Inputs) (errors new_errors : WriteTrace)
      → IsImagesRequested arguments request → request.output ≡ Some name
      → before.input.remaining ≡ input
      → AreHeld (Some old) hints request before after errors new_errors status (Some output)
      → status < 2 → HasFile old new name.now output
      → LeavesFiles arguments input old new steps status
  -- The directory that is named has exactly the files of all payloads of the image that is read,
  -- and each other name has what it had. The status is 0.
  DirectoryIsThere : (request : AllRequest) (file name : List ℕ) (payloads : List PayloadFile)
      (before after : Inputs) → IsAllRequested arguments request
      → before.input.remaining ≡ input
      → IsImageRead (Some old) request.limits before after file request.source
      → AreAllPayloads request.limits (input_from request.offset file) payloads
      → IsWithoutSlashes request.directory.now name → status ≡ 0
      → HasDirectory old new name payloads
      → LeavesFiles arguments input old new steps status
  -- No output file is named, and each name has what it had.
  NoFileIsNamed : (request : Request) → IsRequest arguments request → request.output ≡ None
      → AreSameNames old new → LeavesFiles arguments input old new steps status
  NoFileIsNamedForEach : (request : ImagesRequest) → IsImagesRequested arguments request
      → request.output ≡ None → AreSameNames old new
      → LeavesFiles arguments input old new steps status
  -- The arguments ask for a text or are wrong, and each name has what it had.
  NothingIsRequested : (kind : ErrorKind) → IsTextFor arguments kind → AreSameNames old new
      → LeavesFiles arguments input old new steps status
  -- After a failure each name has what it had, or a new file or directory is left that could not be
  -- removed.
  HasFailed : status ≡ 2
      → AreSameNames old new ⊎ (LeavesNewFile old new steps ⊎ LeavesNewDirectory old new steps)
      → LeavesFiles arguments input old new steps status

-- What has each name is known before a run and after it, and so are the steps, and the run leaves
-- the files so.
pub record LeavesKnownFiles (arguments : List (List ℕ)) (input : Option (List ℕ))
    (old new : KnownFiles) (steps : Option (List FileStep)) (status : ℕ) : Type 0
  where
    pub before : Names
    pub after : Names
    pub all : List FileStep
    pub were_known : old ≡ Some before
    pub are_known : new ≡ Some after
    pub are_steps : steps ≡ Some all
    pub leaves : LeavesFiles arguments input before after all status
