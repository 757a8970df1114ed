use Rattle.std.proofs.Common.{subst}
use Rattle.std.proofs.lemmas.Fmt.{IsAscii-decimal}
use Rattle.std.proofs.lemmas.Str.{IsUtf8-from_ascii}
use Rattle.std.specs.Prelude.{IsUtf8}
use Rattle.bi_describe.proofs.ignored.path_words.number_shown_as.Goals as goal

pub returns-in-Err-clause-none : goal.returns-in-Err-clause-none
returns-in-Err-clause-none c number small is =
    c.in-Err.ensures.cases.0 (subst IsUtf8 is (IsUtf8-from_ascii _ (IsAscii-decimal number small)))
