use Rattle.std.proofs.Common.{subst}
use Rattle.std.proofs.lemmas.Fmt.{IsAscii-decimal}
use Rattle.std.proofs.lemmas.Str.{IsUtf8-from_ascii}
use Rattle.std.specs.Prelude.{IsUtf8}
use Rattle.bi_edit.proofs.kinds.number_in.Goals as goal

pub returns-in-Err-clause-none : goal.returns-in-Err-clause-none
returns-in-Err-clause-none c is =
    c.in-Err.ensures.cases.0 (subst IsUtf8 is.is (IsUtf8-from_ascii _ (IsAscii-decimal is.number is.small)))
