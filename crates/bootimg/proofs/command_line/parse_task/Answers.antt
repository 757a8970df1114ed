use Rattle.std.proofs.Common.{subst, sym}
use Rattle.bootimg.specs.CommandLine.{IsTask}
use Rattle.bootimg.proofs.command_line.parse_task.Goals as goal
use Rattle.bootimg.proofs.command_line.parse_task.Goals.{in-normalise+in_ok-form-in-normalise, in-show+in_ok-show_form-in-show, in-list}
use Rattle.bootimg.proofs.command_line.parse_task.Goals.{in-describe, in-verify}
use Rattle.bootimg.proofs.command_line.parse_task.Goals.{in-check+in_ok-policy-in-check}
use Rattle.bootimg.proofs.command_line.parse_task.Goals.{in-scan, in-get+in_ok-get_plan-in-get, in-extract+in_ok-selection-in-extract}
use Rattle.bootimg.proofs.command_line.parse_task.Goals.{in-convert}

pub returns-clause-task : goal.returns-clause-task
returns-clause-task c =
    let is_task = IsTask c.args.name.now c.args.options.now in
    elim c.match-name.branch [
      | in-normalise+in_ok-form-in-normalise w ↦ subst is_task (sym w.result-is) (w.in-normalise.is, w.in_ok-form-in-normalise.ensures.form)
      | in-show+in_ok-show_form-in-show w ↦ subst is_task (sym w.result-is) (w.in-show.is, w.in_ok-show_form-in-show.ensures.shown)
      | in-list w ↦ subst is_task (sym w.result-is) (w.in-list.is, w.format.ensures)
      | in-describe w ↦ subst is_task (sym w.result-is) (w.in-describe.is, (w.flag.ensures, w.format-in-describe.ensures))
      | in-verify w ↦ subst is_task (sym w.result-is) (w.in-verify.is, w.format-in-verify.ensures)
      | in-check+in_ok-policy-in-check w ↦ subst is_task (sym w.result-is) (
        w.in-check.is,
        (w.in_ok-policy-in-check.ensures.value, w.format-in-check.ensures),
      )
      | in-scan w ↦ subst is_task (sym w.result-is) (w.in-scan.is, w.format-in-scan.ensures)
      | in-get+in_ok-get_plan-in-get w ↦ subst is_task (sym w.result-is) (w.in-get.is, w.in_ok-get_plan-in-get.ensures.plan)
      | in-extract+in_ok-selection-in-extract w ↦ subst is_task (sym w.result-is) (
        w.in-extract.is,
        (c.requires.not_all w.in-extract.is, w.in_ok-selection-in-extract.ensures.selection),
      )
      | in-convert w ↦ subst is_task (sym w.result-is) (w.in-convert.is, tt)
    ]
