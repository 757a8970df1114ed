use Rattle.std.proofs.Common.{◌∙◌, sym}
use Rattle.std.proofs.lemmas.List.{map-id}
use Rattle.std.proofs.lemmas.Iterator.Consumers.{YieldsList-end}
use Rattle.std.proofs.lemmas.Iterator.Adapters.{YieldsList-from_vec}
use Rattle.bootimg.proofs.edits.edits_for.Goals as goal

pub returns : goal.returns
returns c =
    let gives = c.into_iter-edit-iterator.ensures.into_iter_gives in
    let road = YieldsList-from_vec c.args.edits.items gives.0 (gives.1 ∙ c.args.edits.ok.0) in
    let end = YieldsList-end road c.loop-edit.yielded _ c.loop-edit.yielded_by _ c.next.new.self c.in-None.is c.next.ensures.steps in
    c.loop-edit.invariant ∙ sym (map-id c.loop-edit.yielded) ∙ end.0
