use Rattle.std.proofs.Common.{refl, string_bytes}
use Rattle.std.proofs.lemmas.Result.{err_from_is_err_and}
use Rattle.bi_files.specs.Files.{NoNewFile}
use Rattle.bi_files.proofs.NewFiles.{new_file_failed}
use Rattle.bi_files.proofs.saving.save.Goals as goal

pub returns-in_err-beside-clause-failed : goal.returns-in_err-beside-clause-failed
returns-in_err-beside-clause-failed g c =
    let p = err_from_is_err_and c.from_residual.result c.from_residual.ensures.1 in
    rw (p.1, p.2) (NoNewFile (c.if-not-can_replace.ensures.can refl) c.in_err-beside.ensures.failed)

pub returns-clause-failed : goal.returns-clause-failed
returns-clause-failed g c =
    new_file_failed (g.F.FileSystem.known c.args.files.now) c.args.name.now c.args.bytes.now (string_bytes c.in_ok-beside.beside)
    c.as_str.result.now c.as_str-in-Err.result.now c.in-Err.error (g.F.Created.TracedWrite.trace c.in_ok-beside.file) _ _ _ _
    c.remove.result (c.if-not-can_replace.ensures.can refl) c.in_ok-beside.ensures.made c.as_str.ensures.value c.in-Err.ensures.not_put
    c.as_str-in-Err.ensures.value c.remove.ensures.removed c.remove.ensures.not_removed c.in-Err.ensures.error
