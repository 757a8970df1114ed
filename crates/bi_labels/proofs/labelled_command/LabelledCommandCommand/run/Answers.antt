use Rattle.std.proofs.Common.{rules, ◌≡◌, ap}
use Rattle.std.proofs.lemmas.Result.{err_from_is_err_and}
use Rattle.bi_base.specs.Commands.{SinkFailed}
use Rattle.bi_common.specs.Shown.{shown_text}
use Rattle.bi_labels.specs.LabelledTexts.{labelled_text}
use Rattle.bi_labels.proofs.labelled_command.LabelledCommandCommand.run.Goals as goal

pub returns-in_err-result-clause-failed : goal.returns-in_err-result-clause-failed
returns-in_err-result-clause-failed g c =
    let p = err_from_is_err_and c.from_residual-in_err-result.result c.from_residual-in_err-result.ensures.1 in
    let labelled = c.args.self.now in
    let made = c.in_ok-value.ensures.appended in
    let held : c.deref.result.now ≡ made.text = search rules in
    let label = shown_text labelled.name.now in
    let text = labelled_text labelled.format label c.deref.result.now in
    let wrote = c.result.ensures.wrote c.new-pen.result text c.new-pen.ensures.not_failed c.put_labelled.ensures in
    let failure = c.in_err-result.was in
    let laws = g.met.C.Command.laws labelled.command.now c.args.limits in
    rw (p.1)
    (SinkFailed text c.in_err-result.field-0.0
    (record {
      text = made.text;
      holds = laws.is_text c.in_ok-value.value c.args.input.now made.text made.is_text;
      is = ap
          (labelled_text labelled.format label) held;
    })
    (search (rules, wrote, failure))
    (g.met.C.Command.wraps_from labelled.command.now c.args.limits _ _ p.2))
