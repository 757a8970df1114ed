use Rattle.std.proofs.Common.{subst}
use Rattle.bi_common.specs.JsonTokens.{json_tokens}
use Rattle.bi_describe.specs.DeepJson.{object_with_inside}
use Rattle.bi_describe.proofs.HeldDeep.{fit_held, legacy_held}
use Rattle.bi_describe.proofs.describe.deep.DeepImage.put_object.Goals as goal

pub returns-in-Legacy : goal.returns-in-Legacy
returns-in-Legacy g c = λ deep holds.
    subst (λ meaning. g.J.JsonPen.puts c.args.json.now (json_tokens (object_with_inside deep.insides meaning)) c.put_legacy_object.new.json)
    (legacy_held deep.meaning c.args.self.now.described c.in-Legacy.image c.in-Legacy.is holds.holds)
    (c.put_legacy_object.ensures deep.insides holds.are_held)

pub returns-in-Fit : goal.returns-in-Fit
returns-in-Fit g c = λ deep holds.
    let held = fit_held deep.meaning c.args.self.now.described c.in-Fit.fit c.in-Fit.is holds.holds in
    subst (λ meaning. g.J.JsonPen.puts c.args.json.now (json_tokens (object_with_inside deep.insides meaning)) c.put_fit_object.new.json)
    held.is (c.put_fit_object.ensures held.tree deep.insides held.holds holds.are_held)
