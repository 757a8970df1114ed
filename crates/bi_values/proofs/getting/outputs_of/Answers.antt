use Rattle.std.proofs.Common.{inl}
use Rattle.std.proofs.lemmas.Result.{err_from_is_err_and}
use Rattle.bi_norm.specs.Reading.{meaning_of}
use Rattle.bi_values.proofs.GotValues.{is_first_reason}
use Rattle.bi_values.proofs.getting.outputs_of.Goals as goal

pub returns-in_err-output_of-clause-failed : goal.returns-in_err-output_of-clause-failed
returns-in_err-output_of-clause-failed c =
    let p = err_from_is_err_and c.from_residual.result c.from_residual.ensures.1 in
    rw (p.1, p.2)
    (inl (is_first_reason c.args.form (meaning_of c.args.image.now) c.args.names.now c.loop-index.outputs.items c.loop-index.index
    c.index-names-index.result c.in_err-output_of.field-0.0 c.loop-index-test.true c.index-names-index.is c.loop-index.invariant
    c.in_err-output_of.ensures.failed))
