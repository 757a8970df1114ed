use Rattle.std.proofs.lemmas.Result.{err_from_is_err_and}
use Rattle.bi_commands.specs.Payloads.{payloads_model}
use Rattle.bi_commands.proofs.PayloadFiles.{extract_all_error_of_payloads, extract_all_error_of_reading, payloads_of_opened}
use Rattle.bi_commands.proofs.extract_all.extract_all.Goals as goal

pub returns-in_err-image-clause-failed : goal.returns-in_err-image-clause-failed
returns-in_err-image-clause-failed c =
    let p = err_from_is_err_and c.from_residual.result c.from_residual.ensures.1 in
    rw (p.1, p.2) (extract_all_error_of_reading c.args.limits c.args.file.now c.in_err-image.field-0.0 c.in_err-image.ensures.failed)

pub returns-clause-payloads : goal.returns-clause-payloads
returns-clause-payloads c =
    payloads_of_opened payloads_model c.args.limits c.args.file.now c.in_ok-image.image c.payloads_of.result c.in_ok-image.ensures.read
    c.payloads_of.ensures.within c.payloads_of.ensures.payloads

pub returns-clause-failed : goal.returns-clause-failed
returns-clause-failed c =
    extract_all_error_of_payloads c.args.limits c.args.file.now c.in_ok-image.image c.payloads_of.result c.in_ok-image.ensures.read
    c.payloads_of.ensures.failed
