use Rattle.std.specs.List.{AllZip}
use Rattle.bootimg.specs.CommandLine.{IsBadValue, texts_of}
use Rattle.bootimg.specs.EditOptions.{AreSetWords, IsSetWord}
use Rattle.bootimg.proofs.CommandLines.{outcome_weaker}
use Rattle.bootimg.proofs.command_line.edits.settings.add_settings.Goals as goal

pub returns-in_err-add_each_setting-clause-failure : goal.returns-in_err-add_each_setting-clause-failure
returns-in_err-add_each_setting-clause-failure c =
    let words = texts_of c.args.words.now in
    outcome_weaker (IsBadValue (AllZip IsSetWord words)) (IsBadValue (AreSetWords words)) c.from_residual.result
    c.in_err-add_each_setting.field-0.0 c.from_residual.ensures.1 c.in_err-add_each_setting.ensures.failure
    (λ failure bad. (bad.0, λ edits are. bad.1 edits are.each))
