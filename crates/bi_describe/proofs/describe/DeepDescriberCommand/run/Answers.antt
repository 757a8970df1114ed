use Rattle.std.proofs.Common.{refl}
use Rattle.std.proofs.lemmas.Result.{err_from_is_err_and}
use Rattle.bi_base.specs.Commands.{WasRefused}
use Rattle.bi_describe.proofs.DeepFiles.{deep_appended_of_file, deep_error_of_reading, deep_failed_of_file}
use Rattle.bi_describe.proofs.describe.DeepDescriberCommand.run.Goals as goal

pub returns-in_err-image-clause-failed : goal.returns-in_err-image-clause-failed
returns-in_err-image-clause-failed g c =
    let p = err_from_is_err_and c.from_residual.result c.from_residual.ensures.1 in
    rw (p.1, p.2) (WasRefused (deep_error_of_reading c.args.self.now.format c.args.limits c.args.input.now c.in_err-image.field-0.0
    c.in_err-image.ensures.failed) refl)

pub returns-in_err-describe_deep_into-clause-failed : goal.returns-in_err-describe_deep_into-clause-failed
returns-in_err-describe_deep_into-clause-failed g c =
    let p = err_from_is_err_and c.from_residual-in_err-describe_deep_into.result c.from_residual-in_err-describe_deep_into.ensures.1 in
    rw (p.1, p.2)
    (deep_failed_of_file g.S.Sink.fails c.args.self.now.format c.args.limits c.args.input.now c.in_ok-image.image c.args.sink.now
    c.describe_deep_into.new.sink c.in_err-describe_deep_into.field-0.0 c.in_ok-image.ensures.read
    c.in_err-describe_deep_into.ensures.failed)

pub returns-clause-appended : goal.returns-clause-appended
returns-clause-appended g c =
    deep_appended_of_file g.S.Sink.appends c.args.self.now.format c.args.limits c.args.input.now c.in_ok-image.image c.args.sink.now
    c.describe_deep_into.new.sink c.in_ok-image.ensures.read c.in_ok-describe_deep_into.ensures.appended
