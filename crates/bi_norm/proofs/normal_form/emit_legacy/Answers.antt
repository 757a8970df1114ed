use Rattle.std.proofs.Common.{◌≡◌, List, ℕ, ap, subst}
use Rattle.std.proofs.lemmas.Result.{err_from_is_err_and}
use Rattle.bi_legacy.specs.Meaning.{with_new_time}
use Rattle.bi_legacy.specs.Text.{legacy_text}
use Rattle.bi_norm.proofs.NormalForms.{legacy_kept, legacy_not_written}
use Rattle.bi_norm.proofs.normal_form.emit_legacy.Goals as goal

pub returns-in_err-append_legacy-clause-failed : goal.returns-in_err-append_legacy-clause-failed
returns-in_err-append_legacy-clause-failed g c form file opened =
    let p = err_from_is_err_and c.from_residual.result c.from_residual.ensures.1 in
    let parsed = c.args.image.now in
    let is_time : c.fields.result.time ≡ parsed.image.time = search in
    let same : legacy_text (with_new_time c.fields.result.time parsed.image)
    ≡ legacy_text parsed.image = ap (λ (time : ℕ). legacy_text (with_new_time time parsed.image)) is_time in
    rw (p.1, p.2) (legacy_not_written c.args.limits form file parsed _ c.args.sink.now c.append_legacy.new.sink _ opened same
    (c.in_err-append_legacy.ensures.failed file opened))

pub returns-clause-appended : goal.returns-clause-appended
returns-clause-appended g c form file opened =
    let appends = g.S.Sink.appends in
    let parsed = c.args.image.now in
    let is_time : c.fields.result.time ≡ parsed.image.time = search in
    let same : legacy_text (with_new_time c.fields.result.time parsed.image)
    ≡ legacy_text parsed.image = ap (λ (time : ℕ). legacy_text (with_new_time time parsed.image)) is_time in
    record {
      text = legacy_text parsed.image;
      is_text = legacy_kept c.args.limits form file parsed c.default.result opened c.default.ensures.0
          (record { alignment = c.default.ensures.1.0; positions = c.default.ensures.1.1 });
      appended = subst (λ (text : List ℕ). appends c.args.sink.now text c.append_legacy.new.sink) same
          (c.in_ok-append_legacy.ensures.appended file opened);
    }
