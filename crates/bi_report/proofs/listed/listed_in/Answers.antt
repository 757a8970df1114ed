use Rattle.std.proofs.Common.{sym, ◌∙◌}
use Rattle.bi_report.proofs.ListedNames.{listed_images, listed_missing}
use Rattle.bi_report.proofs.listed.listed_in.Goals as goal

pub returns-in-Some : goal.returns-in-Some
returns-in-Some c =
    listed_missing c.args.fit.now.images c.args.value.now c.in-Some.index (sym c.ends_with.ensures.value ∙ c.if-not-ends_with.false)
    (sym c.first_missing.ensures ∙ c.in-Some.is)

pub returns-in-None : goal.returns-in-None
returns-in-None c =
    listed_images c.args.fit.now.images c.args.value.now (sym c.ends_with.ensures.value ∙ c.if-not-ends_with.false)
    (sym c.first_missing.ensures ∙ c.in-None.is)
