use Rattle.std.proofs.Common.{List, [], ◌∷◌, subst}
use Rattle.std.specs.Prelude.{◌↔◌, IfOk, IsTrue}
use Rattle.bi_describe.specs.IgnoredWords.{AreWordsOfValues}
use Rattle.bi_describe.specs.Ignoring.{Ignored}
use Rattle.bootimg.proofs.command_line.takes.is_left_out.Goals as goal

pub returns : goal.returns
returns c =
    subst (λ word. IfOk c.are_left_out.result (λ is. IsTrue is ↔ ((words : List Ignored) × AreWordsOfValues (word ∷ []) words)))
    c.as_bytes.ensures.value c.are_left_out.ensures
