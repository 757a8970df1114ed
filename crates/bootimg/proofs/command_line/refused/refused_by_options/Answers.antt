use Rattle.std.proofs.Common.{option_map}
use Rattle.std.proofs.lemmas.Result.{IfOk-weaker}
use Rattle.bootimg.specs.RefusedWords.{given_word}
use Rattle.bootimg.proofs.command_line.refused.refused_by_options.Goals as goal

pub returns : goal.returns
returns c =
    IfOk-weaker c.with_near.result _ _ (λ refused is. (option_map given_word c.in_ok-given.given, c.in_ok-given.ensures, is))
    c.with_near.ensures
