use Rattle.std.proofs.Common.{◌≡◌, ◌∙◌, ℕ, List, Option, Result, Ok, Err, true, ap, subst}
use Rattle.bi_base.specs.declared.fault.Error.{Error}
use Rattle.bi_common.specs.Offsets.{input_from}
use Rattle.bi_commands.specs.ExtractingAll.{AreAllPayloads, IsExtractAllError, PayloadFile}
use Rattle.bootimg.specs.declared.command_line.extract.AllRequest.{AllRequest}
use Rattle.bootimg.specs.declared.command_line.source.ImageSource.TheVariants.{File}
use Rattle.bootimg.specs.declared.failure.Failure.TheVariants.{Call}
use Rattle.bootimg.specs.declared.jobs.SourceFailure.{SourceFailure}
use Rattle.bootimg.specs.declared.tasks.Done.{Done}
use Rattle.bi_files.specs.declared.saving.SaveError.{SaveError}
use Rattle.bi_files.specs.Directories.{IsDirectoryNotSaved, IsDirectorySaved, IsWithoutSlashes}
use Rattle.bi_files.specs.Files.{FileStep, KnownFiles}
use Rattle.bootimg.specs.Failures.{failure_to_save}
use Rattle.bootimg.specs.Runs.{Inputs, IsAllWork, IsImageRead, NotExtracted, PayloadsNotSaved, PayloadsSaved, source_failure}
use Rattle.bootimg.specs.Tasks.{EndedWith}

-- Extracting all payloads of an image that was read. Reading it did not change what is known of the files. `shown` is the image as it was
-- lent, and `image` the part of it from the offset on.

abbrev pub IsRead : KnownFiles → AllRequest → (before after : Inputs) → (read : Option (List FileStep)) → (file : List ℕ) → Type 0
IsRead files request before after read file =
    IsImageRead files request.limits before (record { input = after.input; steps = read }) file request.source

pub all_saved : (files later : KnownFiles) (request : AllRequest) (before after : Inputs) (read : Option (List FileStep))
    (file shown image name : List ℕ) (payloads saved : List PayloadFile) (outcome : Result Done SourceFailure) (done : Done)
    → IsRead files request before after read file → later ≡ files → shown ≡ file → image ≡ input_from request.offset shown
    → AreAllPayloads request.limits image payloads → IsWithoutSlashes request.directory.now name → saved ≡ payloads
    → IsDirectorySaved later name saved read after.steps → EndedWith true done → outcome ≡ Ok done
    → IsAllWork files request before after outcome
all_saved files later request before after read file shown image name payloads saved outcome done was same is at all word lent is_saved
    ended ends =
    PayloadsSaved file name payloads read was
    (subst (λ b. AreAllPayloads request.limits b payloads) (at ∙ ap (input_from request.offset) is) all) word
    (subst (λ f. IsDirectorySaved f name payloads read after.steps) same
    (subst (λ p. IsDirectorySaved later name p read after.steps) lent is_saved))
    done ended ends

pub all_not_saved : (files later : KnownFiles) (request : AllRequest) (before after : Inputs) (read : Option (List FileStep))
    (file shown image name : List ℕ) (payloads saved : List PayloadFile) (outcome : Result Done SourceFailure) (error : SaveError)
    → IsRead files request before after read file → later ≡ files → shown ≡ file → image ≡ input_from request.offset shown
    → AreAllPayloads request.limits image payloads → IsWithoutSlashes request.directory.now name → saved ≡ payloads
    → IsDirectoryNotSaved later name saved error read after.steps
    → outcome ≡ Err (source_failure (File request.directory) (failure_to_save error))
    → IsAllWork files request before after outcome
all_not_saved files later request before after read file shown image name payloads saved outcome error was same is at all word lent not
    ends =
    PayloadsNotSaved file name payloads read was
    (subst (λ b. AreAllPayloads request.limits b payloads) (at ∙ ap (input_from request.offset) is) all) word error
    (subst (λ f. IsDirectoryNotSaved f name payloads error read after.steps) same
    (subst (λ p. IsDirectoryNotSaved later name p error read after.steps) lent not))
    ends

pub not_extracted : (files : KnownFiles) (request : AllRequest) (before after : Inputs) (file shown image : List ℕ)
    (outcome : Result Done SourceFailure) (error : Error) → IsRead files request before after after.steps file → shown ≡ file
    → image ≡ input_from request.offset shown → IsExtractAllError request.limits image error
    → outcome ≡ Err (source_failure request.source (Call error)) → IsAllWork files request before after outcome
not_extracted files request before after file shown image outcome error was is at why ends =
    NotExtracted file was error
    (subst (λ b. IsExtractAllError request.limits b error) (at ∙ ap (input_from request.offset) is) why) ends
