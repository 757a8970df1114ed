use Rattle.std.proofs.Common.{◌∙◌, ◌++◌, ap, subst, arith}
use Rattle.bi_legacy.specs.Text.{legacy_text}
use Rattle.std.proofs.lemmas.Result.{err_from_is_err_and}
use Rattle.bi_base.specs.Cells.{AreBytes}
use Rattle.bi_legacy.specs.Meaning.{FitsFields}
use Rattle.bi_legacy.specs.Emitting.{image_of_parts}
use Rattle.bi_norm.proofs.BuiltLegacy.{legacy_text_written, is_built, build_error}
use Rattle.bi_norm.proofs.legacy.build_legacy.Goals as goal

pub returns-in_err-emit-clause-failed : goal.returns-in_err-emit-clause-failed
returns-in_err-emit-clause-failed c =
    let p = err_from_is_err_and c.from_residual.result c.from_residual.ensures.1 in
    let image = image_of_parts c.args.fields c.args.parts.now in
    rw (p.1, p.2) (build_error _ _ c.args.limits image _ _ c.in_err-emit.field-0.0 (λ text failed. failed.1) c.in_err-emit.ensures)

pub returns-clause-built : goal.returns-clause-built
returns-clause-built c =
    let image = image_of_parts c.args.fields c.args.parts.now in
    let ranges : FitsFields image = record {
      time = omega arith;
      load = omega arith;
      entry = omega arith;
      os = omega arith;
      arch = omega arith;
      image_type = omega arith;
      compression = omega arith;
    } in
    let wrote = legacy_text_written _ _ c.args.limits image _ _ c.in_ok-emit.ensures in
    let bytes : AreBytes c.into_vec-text.result.items = subst AreBytes c.deref.ensures.value c.are_bytes.ensures in
    is_built c.args.limits image c.into_vec-text.result.items ranges (omega arith) wrote.0
    (c.into_vec-text.ensures ∙ wrote.1 ∙ ap (λ l. l ++ legacy_text image) c.new-sink.ensures) bytes
