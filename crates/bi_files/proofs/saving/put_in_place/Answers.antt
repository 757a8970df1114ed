use Rattle.bi_files.specs.Files.{FillingFailed, RenamingFailed}
use Rattle.bi_files.proofs.NewFiles.{always_at_err}
use Rattle.bi_files.proofs.saving.put_in_place.Goals as goal

pub returns-in_err-write_new_file-clause-not_put : goal.returns-in_err-write_new_file-clause-not_put
returns-in_err-write_new_file-clause-not_put g c =
    always_at_err c.from_residual.result (FillingFailed c.in_err-write_new_file.ensures.not_filled)

pub returns-in-Err-clause-not_put : goal.returns-in-Err-clause-not_put
returns-in-Err-clause-not_put g c = RenamingFailed _ c.in_ok-write_new_file.ensures.filled c.in-Err.ensures.not_renamed
