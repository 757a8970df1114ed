use Rattle.std.proofs.Common.{◌∙◌, ap, option_map, Bor, List, ℕ}
use Rattle.bootimg.specs.CommandLine.{IsBadValue, IsNewTime}
use Rattle.bootimg.specs.declared.failure.Failure.TheVariants.{BadValue}
use Rattle.bootimg.proofs.CommandLines.{err_if, ok_or_failed}
use Rattle.bootimg.proofs.EditPlans.{no_new_time}
use Rattle.bootimg.proofs.command_line.edits.new_time.Goals as goal

pub returns-in_err-time-in-Some-clause-bad : goal.returns-in_err-time-in-Some-clause-bad
returns-in_err-time-in-Some-clause-bad c =
    let exit = c.in_err-time-in-Some in
    let text = option_map (λ (text : Bor (List ℕ)). text.now) c.args.argument in
    let failed = ok_or_failed c.parse_number.result BadValue exit.field-0.0 c.ok_or.result c.ok_or.ensures.value exit.was in
    err_if (IsBadValue (IsNewTime text)) c.from_residual.result c.from_residual.ensures.1
    (λ failure same. (
      same ∙ failed.1,
      no_new_time text c.in-Some.argument.now (ap (option_map (λ (text : Bor (List ℕ)). text.now)) c.in-Some.is)
          (λ number is. absurd (let e = c.parse_number.ensures.exactly number is in let none = failed.0 in cc)),
    ))
