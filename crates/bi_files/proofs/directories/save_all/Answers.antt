use Rattle.std.proofs.Common.{map, refl, string_bytes, take}
use Rattle.std.proofs.lemmas.Result.{err_from_is_err_and}
use Rattle.bi_commands.specs.Payloads.{payload_file}
use Rattle.bi_files.specs.Directories.{NoNewDirectory}
use Rattle.bi_files.proofs.NewDirectories.{new_directory_failed}
use Rattle.bi_files.proofs.directories.save_all.Goals as goal

pub returns-in_err-beside-clause-failed : goal.returns-in_err-beside-clause-failed
returns-in_err-beside-clause-failed g c =
    let p = err_from_is_err_and c.from_residual.result c.from_residual.ensures.1 in
    rw (p.1, p.2) (NoNewDirectory (c.if-not-is_unused.ensures.unused refl) c.in_err-beside.ensures.failed)

pub returns-clause-failed : goal.returns-clause-failed
returns-clause-failed g c =
    new_directory_failed (g.F.FileSystem.known c.args.files.now) c.args.name.now (map payload_file c.args.payloads.now)
    (map payload_file (take c.in-Err.made c.args.payloads.now)) (string_bytes c.in_ok-beside.beside) c.as_str.result.now
    c.as_str-in-Err.result.now _ _ _ _ (c.if-not-is_unused.ensures.unused refl) c.in_ok-beside.ensures.made c.as_str.ensures.value
    c.in-Err.ensures.not_put c.as_str-in-Err.ensures.value
    c.remove_all.ensures
