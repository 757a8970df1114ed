use Rattle.std.proofs.Common.{ap, option_map, subst, ◌∙◌}
use Rattle.bi_describe.specs.DeepDescriptions.{whole_devicetree}
use Rattle.bi_describe.specs.MadeInsides.{HoldsAt}
use Rattle.bi_describe.specs.MadeWords.{ignored_words, place_of_payload}
use Rattle.bi_describe.proofs.HeldInsides.{left_out_of_one}
use Rattle.bi_describe.proofs.describe.insides.leave_out_of.Goals as goal

pub returns-in_ok-leave_out : goal.returns-in_ok-leave_out
returns-in_ok-leave_out c = λ found held.
    let place = place_of_payload c.args.place.now in
    left_out_of_one (ignored_words c.args.words.now) (ignored_words c.deref.result.now) place found c.in-Some.tree c.leave_out.new.self
    (ap ignored_words c.deref.ensures.value ∙ c.in_ok-inside.ensures)
    c.in_ok-leave_out.ensures (subst (HoldsAt place (option_map whole_devicetree found)) c.in-Some.is held)
