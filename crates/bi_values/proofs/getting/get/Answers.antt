use Rattle.std.proofs.Common.{◌∙◌, List, ap, flat_map, inr, subst}
use Rattle.std.proofs.lemmas.Result.{err_from_is_err_and}
use Rattle.bi_base.specs.MemoryPens.{MemoryPuts}
use Rattle.bi_values.specs.Getting.{IsTextOfValues}
use Rattle.bi_values.specs.ValueNames.{value_name_models}
use Rattle.bi_values.specs.ValueOutputs.{output_text}
use Rattle.bi_values.specs.declared.outputs.ValueOutput.{ValueOutput}
use Rattle.bi_values.specs.declared.get_error.GetError.TheVariants.{Failed}
use Rattle.bi_values.proofs.GotValues.{get_error_of_file, outputs_of_file, text_in_memory}
use Rattle.bi_values.proofs.getting.get.Goals as goal

pub returns-in_err-outputs-clause-failed : goal.returns-in_err-outputs-clause-failed
returns-in_err-outputs-clause-failed c =
    let p = err_from_is_err_and c.from_residual-in_err-outputs.result c.from_residual-in_err-outputs.ensures.1 in
    rw (p.1, p.2)
    (get_error_of_file c.args.form (value_name_models c.args.names.now) c.args.limits c.args.file.now c.in_ok-image.image
    c.in_err-outputs.field-0.0 c.in_ok-image.ensures.read c.in_err-outputs.ensures.failed)

pub returns-in_err-into_vec-clause-failed : goal.returns-in_err-into_vec-clause-failed
returns-in_err-into_vec-clause-failed c =
    let p = err_from_is_err_and c.from_residual-in_err-into_vec.result c.from_residual-in_err-into_vec.ensures.1 in
    rw (p.1)
    (get_error_of_file c.args.form (value_name_models c.args.names.now) c.args.limits c.args.file.now c.in_ok-image.image
    p.0 c.in_ok-image.ensures.read (inr (p.2 ∙ ap Failed c.in_err-into_vec.ensures.failed.1)))

pub returns-clause-values : goal.returns-clause-values
returns-clause-values c =
    let names = value_name_models c.args.names.now in
    subst (IsTextOfValues c.args.form names c.args.limits c.args.file.now)
    (text_in_memory c.new-pen.result c.put_outputs.new.pen c.in_ok-outputs.outputs.items c.in_ok-into_vec.field-0.items
    c.new-pen.ensures c.in_ok-into_vec.ensures.text
    (subst (λ (outputs : List ValueOutput). MemoryPuts c.new-pen.result (flat_map output_text outputs) c.put_outputs.new.pen)
    c.deref.ensures.value c.put_outputs.ensures))
    (outputs_of_file c.args.form names c.args.limits c.args.file.now c.in_ok-image.image c.in_ok-outputs.outputs.items
    c.in_ok-image.ensures.read c.in_ok-outputs.ensures.outputs)
