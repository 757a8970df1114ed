use Rattle.std.proofs.Common.{subst, sym, true≢false}
use Rattle.bi_common.specs.MadeFields.{bytes_of_names}
use Rattle.bi_describe.specs.IgnoredErrors.{IsParseError}
use Rattle.bi_describe.specs.IgnoredWords.{AreWordsOfValues, IsFirstBadIgnored}
use Rattle.bootimg.proofs.IgnoredOptions.{no_ignored_words}
use Rattle.bootimg.proofs.RefusedFacts.{taken_if_parsed}
use Rattle.bootimg.proofs.command_line.takes.are_left_out.Goals as goal

pub returns-in-Ok : goal.returns-in-Ok
returns-in-Ok c = taken_if_parsed (AreWordsOfValues (bytes_of_names c.args.values.now)) _ c.in-Ok.ensures.words

pub returns-in-Err-BadValue : goal.returns-in-Err-BadValue
returns-in-Err-BadValue c =
    let values = bytes_of_names c.args.values.now in
    let bad : IsFirstBadIgnored values c.in-Err-BadValue.field-0-0 =
    subst (IsParseError values) c.in-Err-BadValue.field-0-is c.in-Err-BadValue.ensures.failed in (
      λ holds. absurd (true≢false (sym holds)),
      λ given. absurd (no_ignored_words values c.in-Err-BadValue.field-0-0 bad given.0 given.1),
    )
