use Rattle.std.proofs.Common.{string_bytes}
use Rattle.std.proofs.lemmas.Result.{err_from_is_err_and}
use Rattle.bi_describe.proofs.DeepFiles.{deep_error_of_reading, deep_failed_of_result, deep_of_result}
use Rattle.bi_describe.proofs.describe.describe_deep.Goals as goal

pub returns-in_err-image-clause-failed : goal.returns-in_err-image-clause-failed
returns-in_err-image-clause-failed c =
    let p = err_from_is_err_and c.from_residual.result c.from_residual.ensures.1 in
    rw (p.1, p.2) (deep_error_of_reading c.args.format c.args.limits c.args.file.now c.in_err-image.field-0.0
    c.in_err-image.ensures.failed)

pub returns-clause-failed : goal.returns-clause-failed
returns-clause-failed c =
    deep_failed_of_result c.args.format c.args.limits c.args.file.now c.in_ok-image.image c.deep_text_of_image.result
    c.in_ok-image.ensures.read c.deep_text_of_image.ensures.failed

pub returns-clause-described : goal.returns-clause-described
returns-clause-described c =
    deep_of_result string_bytes c.args.format c.args.limits c.args.file.now c.in_ok-image.image c.deep_text_of_image.result
    c.in_ok-image.ensures.read c.deep_text_of_image.ensures.described
