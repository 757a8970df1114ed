use Rattle.std.proofs.Common.{refl, ap, Err, inl, inr, rules}
use Rattle.std.proofs.lemmas.Result.{err_from_is_err_and}
use Rattle.bi_base.specs.declared.fault.Error.TheVariants.{Refused}
use Rattle.bi_legacy.specs.Emitting.{image_of_parts}
use Rattle.bi_legacy.proofs.EmitFaults.{one_emit_fault, no_emit_fault_no_fault}
use Rattle.bi_legacy.proofs.emitting.emit_with.Goals as goal

pub returns-in_err-size : goal.returns-in_err-size
returns-in_err-size g c =
    let image = image_of_parts c.args.fields c.args.parts.now in
    let first = c.in_err-size.field-0.0 in
    let p = err_from_is_err_and c.from_residual.result c.from_residual.ensures.1 in
    rw (p.1, p.2) record {
      refused = λ fault is. (
        ap (λ f. Err (Refused f))
            (one_emit_fault image c.args.limits first fault c.in_err-size.ensures.fault is),
        refl,
      );
      written = λ none. absurd (no_emit_fault_no_fault image c.args.limits first none c.in_err-size.ensures.fault);
      refused_or_written = inr (first, c.in_err-size.ensures.fault);
    }

pub returns : goal.returns
returns g c =
    let image = image_of_parts c.args.fields c.args.parts.now in
    record {
      refused = λ fault is. absurd (no_emit_fault_no_fault image c.args.limits fault c.in_ok-size.ensures.ok is);
      written = λ none. search rules;
      refused_or_written = inl c.in_ok-size.ensures.ok;
    }
