use Rattle.std.proofs.Common.{ap, arith, length, map}
use Rattle.std.proofs.lemmas.List.{take_all}
use Rattle.std.proofs.lemmas.Result.{err_from_is_err_and}
use Rattle.bi_commands.specs.Payloads.{payload_file}
use Rattle.bi_files.specs.Directories.{PuttingFailed, TakingNameFailed}
use Rattle.bi_files.proofs.directories.put_in_place.Goals as goal

pub returns-in_err-put_files-clause-not_put : goal.returns-in_err-put_files-clause-not_put
returns-in_err-put_files-clause-not_put g c =
    let p = err_from_is_err_and c.from_residual.result c.from_residual.ensures.1 in
    rw (p.1, p.2) (PuttingFailed c.in_err-put_files.ensures.not_put)

pub returns-in_err-put_files-clause-within : goal.returns-in_err-put_files-clause-within
returns-in_err-put_files-clause-within g c =
    let p = err_from_is_err_and c.from_residual.result c.from_residual.ensures.1 in
    rw (p.1, p.2) c.in_err-put_files.ensures.within

pub returns-in-Err-clause-not_put : goal.returns-in-Err-clause-not_put
returns-in-Err-clause-not_put g c =
    TakingNameFailed _ (ap (map payload_file) (take_all (length c.args.payloads.now) c.args.payloads.now (omega arith)))
    c.in_ok-put_files.ensures.put c.in-Err.ensures.not_renamed
