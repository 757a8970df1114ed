use Rattle.std.proofs.Common.{◌≡◌, ◌∙◌, ap, codes, inl, refl, subst, sym}
use Rattle.bi_common.specs.MadeFields.{bytes_of_names}
use Rattle.bi_describe.specs.IgnoredErrors.{IsParseError}
use Rattle.bi_describe.specs.IgnoredWords.{AreWordsOfValues, IsFirstBadIgnored}
use Rattle.bootimg.specs.CommandLine.{values_of}
use Rattle.bootimg.proofs.IgnoredOptions.{no_ignored_words}
use Rattle.bootimg.proofs.command_line.ignored.ignored_words.Goals as goal

pub returns-in-Err-BadValue-clause-failure : goal.returns-in-Err-BadValue-clause-failure
returns-in-Err-BadValue-clause-failure c =
    let given = bytes_of_names c.deref.result.now in
    let same : given ≡ values_of c.args.options.now (codes "ignore") =
    ap bytes_of_names c.deref.ensures.value ∙ c.in_ok-values.ensures ∙ c.all_values.ensures in
    let bad : IsFirstBadIgnored given c.in-Err-BadValue.field-0-0 =
    subst (IsParseError given) c.in-Err-BadValue.field-0-is c.in-Err-BadValue.ensures.failed in
    inl (
      refl,
      λ words are.
          no_ignored_words given c.in-Err-BadValue.field-0-0 bad words
          (subst (λ values. AreWordsOfValues values words) (sym same) are),
    )
