use Rattle.std.proofs.Common.{refl, subst, ◌∙◌}
use Rattle.bootimg.specs.CommandLine.{KeepsForm, NoForm, TwoForms}
use Rattle.bootimg.proofs.CommandLines.{err_if}
use Rattle.bootimg.proofs.command_line.edits.form_choice.Goals as goal

pub returns-in_err-given-clause-bad : goal.returns-in_err-given-clause-bad
returns-in_err-given-clause-bad c =
    err_if _ c.from_residual.result c.from_residual.ensures.1
    (λ failure same. (same ∙ c.in_err-given.ensures.failure.0, NoForm c.in_err-given.ensures.failure.1))

pub returns-in_default : goal.returns-in_default
returns-in_default c =
    let options = c.args.options.now in
    record {
      choice = tt;
      bad = (
        refl,
        TwoForms (subst (KeepsForm options) c.if-not-flag.false c.flag.ensures) c.in_ok-given.given c.in_ok-given.ensures.form
            c.in_default.not-Embedded,
      );
    }
