use Rattle.std.proofs.Common.{subst}
use Rattle.bi_common.specs.LineTokens.{tokens_of_lines}
use Rattle.bi_describe.specs.DeepDescriptions.{insides_shown, lines_with_inside}
use Rattle.bi_describe.specs.declared.describe.DescribedImage.TheVariants.{Fit}
use Rattle.bi_describe.specs.DescribedImages.{HoldsMeaning}
use Rattle.bi_describe.specs.Descriptions.{description_lines}
use Rattle.bi_describe.proofs.HeldDeep.{fit_held, legacy_held}
use Rattle.bi_describe.proofs.describe.deep.DeepImage.put_lines.Goals as goal

pub returns-in-Legacy-clause-put : goal.returns-in-Legacy-clause-put
returns-in-Legacy-clause-put g c = λ deep holds.
    subst (λ meaning. g.L.LinePen.puts c.args.pen.now
    (tokens_of_lines (lines_with_inside (insides_shown deep.insides) (description_lines meaning))) c.put_legacy_lines.new.pen)
    (legacy_held deep.meaning c.args.self.now.described c.in-Legacy.image c.in-Legacy.is holds.holds)
    (c.put_legacy_lines.ensures.put deep.insides holds.are_held)

pub returns-in-Fit-clause-put : goal.returns-in-Fit-clause-put
returns-in-Fit-clause-put g c = λ deep holds.
    let held = fit_held deep.meaning c.args.self.now.described c.in-Fit.fit c.in-Fit.is holds.holds in
    subst (λ meaning. g.L.LinePen.puts c.args.pen.now
    (tokens_of_lines (lines_with_inside (insides_shown deep.insides) (description_lines meaning))) c.put_fit_lines.new.pen)
    held.is (c.put_fit_lines.ensures.put held.tree deep.insides held.holds holds.are_held)

pub returns-in-Legacy-clause-same : goal.returns-in-Legacy-clause-same
returns-in-Legacy-clause-same g c = λ deep holds. record {
  holds = subst (HoldsMeaning deep.meaning) c.in-Legacy.is holds.holds;
  are_held = c.put_legacy_lines.ensures.same _ holds.are_held;
}

pub returns-in-Fit-clause-same : goal.returns-in-Fit-clause-same
returns-in-Fit-clause-same g c = λ deep holds.
    let held = fit_held deep.meaning c.args.self.now.described c.in-Fit.fit c.in-Fit.is holds.holds in
    record {
      holds = subst (λ meaning. HoldsMeaning meaning (Fit c.put_fit_lines.new.fit)) held.is
          (c.put_fit_lines.ensures.same held.tree held.holds);
      are_held = c.put_fit_lines.ensures.same_insides _ holds.are_held;
    }
