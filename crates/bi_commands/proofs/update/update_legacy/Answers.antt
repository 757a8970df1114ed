use Rattle.std.proofs.Common.{◌≡◌, ap, ◌∙◌, unwrap_or, arith}
use Rattle.std.proofs.lemmas.Result.{err_from_is_err_and}
use Rattle.bi_commands.proofs.UpdatedFiles.{legacy_updated, legacy_not_updated}
use Rattle.bi_commands.proofs.update.update_legacy.Goals as goal

pub returns-in_err-append_legacy-clause-failed : goal.returns-in_err-append_legacy-clause-failed
returns-in_err-append_legacy-clause-failed g c form file opened =
    let p = err_from_is_err_and c.from_residual.result c.from_residual.ensures.1 in
    let parsed = c.args.image.now in
    let own : c.fields.result.time ≡ parsed.image.time = search in
    let made : c.unwrap_or-time.result ≡ unwrap_or c.args.changes.time c.fields.result.time = search in
    let is_time : c.unwrap_or-time.result ≡ unwrap_or c.args.changes.time parsed.image.time = made
    ∙ ap (unwrap_or c.args.changes.time) own in
    rw (p.1, p.2) (legacy_not_updated c.args.changes c.args.limits form file parsed opened c.unwrap_or-time.result is_time
    (omega arith) _ _ _ (c.in_err-append_legacy.ensures.failed file opened))

pub returns-clause-appended : goal.returns-clause-appended
returns-clause-appended g c form file opened =
    let parsed = c.args.image.now in
    let own : c.fields.result.time ≡ parsed.image.time = search in
    let made : c.unwrap_or-time.result ≡ unwrap_or c.args.changes.time c.fields.result.time = search in
    let is_time : c.unwrap_or-time.result ≡ unwrap_or c.args.changes.time parsed.image.time = made
    ∙ ap (unwrap_or c.args.changes.time) own in
    legacy_updated c.args.changes c.args.limits form file parsed opened c.unwrap_or-time.result is_time (omega arith) _ _
    c.default.result c.default.ensures.0 (record { alignment = c.default.ensures.1.0; positions = c.default.ensures.1.1 })
    (c.in_ok-append_legacy.ensures.appended file opened)
