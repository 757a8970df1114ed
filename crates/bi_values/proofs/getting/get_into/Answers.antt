use Rattle.std.proofs.Common.{flat_map, refl, rules}
use Rattle.std.proofs.lemmas.Result.{err_from_is_err_and}
use Rattle.bi_base.specs.Commands.{SinkFailed, WasRefused}
use Rattle.bi_values.specs.ValueNames.{value_name_models}
use Rattle.bi_values.specs.ValueOutputs.{output_text}
use Rattle.bi_values.proofs.GotValues.{get_error_of_file, outputs_of_file}
use Rattle.bi_values.proofs.getting.get_into.Goals as goal

pub returns-in_err-outputs-clause-failed : goal.returns-in_err-outputs-clause-failed
returns-in_err-outputs-clause-failed g c =
    let p = err_from_is_err_and c.from_residual-in_err-outputs.result c.from_residual-in_err-outputs.ensures.1 in
    rw (p.1, p.2)
    (WasRefused
    (get_error_of_file c.args.form (value_name_models c.args.names.now) c.args.limits c.args.file.now c.in_ok-image.image
    c.in_err-outputs.field-0.0 c.in_ok-image.ensures.read c.in_err-outputs.ensures.failed) refl)

pub returns-in_err-result-clause-failed : goal.returns-in_err-result-clause-failed
returns-in_err-result-clause-failed g c =
    let p = err_from_is_err_and c.from_residual-in_err-result.result c.from_residual-in_err-result.ensures.1 in
    let text = flat_map output_text c.deref.result.now in
    let wrote = c.result.ensures.wrote c.new-pen.result text c.new-pen.ensures.not_failed c.put_outputs.ensures in
    let is = outputs_of_file c.args.form (value_name_models c.args.names.now) c.args.limits c.args.file.now c.in_ok-image.image
    c.in_ok-outputs.outputs.items c.in_ok-image.ensures.read c.in_ok-outputs.ensures.outputs in
    let failure = c.in_err-result.was in
    rw (p.1) (SinkFailed text c.in_err-result.field-0.0 (rw c.deref.ensures.value is) (search (rules, wrote, failure)) p.2)

pub returns-clause-appended : goal.returns-clause-appended
returns-clause-appended g c =
    let text = flat_map output_text c.deref.result.now in
    let wrote = c.result.ensures.wrote c.new-pen.result text c.new-pen.ensures.not_failed c.put_outputs.ensures in
    let is = outputs_of_file c.args.form (value_name_models c.args.names.now) c.args.limits c.args.file.now c.in_ok-image.image
    c.in_ok-outputs.outputs.items c.in_ok-image.ensures.read c.in_ok-outputs.ensures.outputs in
    let success = c.in_ok-result.was in
    record { text = text; is_text = rw c.deref.ensures.value is; appended = search (rules, wrote, success) }
