use Rattle.std.proofs.Common.{◌≡◌, ◌^◌, ◌<◌, map, ap, ◌∙◌, ℕ, List, Bor, refl, arith}
use Rattle.std.proofs.lemmas.Result.{err_from_is_err_and}
use Rattle.bi_legacy.specs.Meaning.{with_new_time}
use Rattle.bi_legacy.specs.Text.{legacy_text}
use Rattle.bi_legacy.proofs.UpdatedImages.{updated_has_normal_form}
use Rattle.bi_base.specs.Commands.{WasRefused}
use Rattle.bi_base.specs.declared.fault.Error.TheVariants.{OutOfMemory}
use Rattle.bi_fit.proofs.AppendedTexts.{wrote_text, wrote_no_text}
use Rattle.bi_norm.proofs.legacy_text.append_legacy.Goals as goal

pub emit_updated_image-requires : goal.emit_updated_image-requires
emit_updated_image-requires g c = ap (map (λ (part : Bor (List ℕ)). part.now)) c.deref.ensures.value ∙ c.in_ok-parts.ensures

pub returns-in_err-parts-clause-failed : goal.returns-in_err-parts-clause-failed
returns-in_err-parts-clause-failed g c file opened =
    let p = err_from_is_err_and c.from_residual.result c.from_residual.ensures.1 in
    rw (p.1, p.2) (WasRefused refl refl)

pub returns-clause-appended : goal.returns-clause-appended
returns-clause-appended g c file opened =
    let small : c.args.time < 2 ^ 32 = omega arith in
    let parsed = c.args.image.now in
    wrote_text g.S.Sink.appends g.S.Sink.fails c.args.sink.now
    (legacy_text (with_new_time c.args.time parsed.image)) c.emit_updated_image.result c.emit_updated_image.new.sink
    (c.emit_updated_image.ensures.written
    (updated_has_normal_form file parsed.image c.args.limits c.args.time opened.means small).can_be_written)

pub returns-clause-failed : goal.returns-clause-failed
returns-clause-failed g c file opened =
    let small : c.args.time < 2 ^ 32 = omega arith in
    let parsed = c.args.image.now in
    wrote_no_text g.S.Sink.appends g.S.Sink.fails (λ error. error ≡ OutOfMemory) c.args.sink.now
    (legacy_text (with_new_time c.args.time parsed.image)) c.emit_updated_image.result c.emit_updated_image.new.sink
    (c.emit_updated_image.ensures.written
    (updated_has_normal_form file parsed.image c.args.limits c.args.time opened.means small).can_be_written)
