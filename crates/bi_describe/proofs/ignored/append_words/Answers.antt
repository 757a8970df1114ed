use Rattle.std.proofs.Common.{◌++◌, length, sym, ap, ◌∙◌}
use Rattle.std.proofs.lemmas.List.{map-id}
use Rattle.std.proofs.lemmas.Iterator.Consumers.{YieldsList-end}
use Rattle.std.proofs.lemmas.Iterator.Adapters.{YieldsList-from_vec}
use Rattle.bi_describe.specs.MadeWords.{ignored_words}
use Rattle.bi_describe.proofs.ignored.append_words.Goals as goal

pub returns : goal.returns
returns c =
    let gives = c.into_iter-word-iterator.ensures.into_iter_gives in
    let road = YieldsList-from_vec c.args.words.items gives.0
    (gives.1 ∙ sym c.as_slice.ensures.len ∙ ap length c.as_slice.ensures.value) in
    let end = YieldsList-end road c.loop-word.yielded _ c.loop-word.yielded_by _ c.next.new.self c.in-None.is c.next.ensures.steps in
    c.loop-word.invariant
    ∙ ap (λ words. ignored_words c.args.all.now.items ++ ignored_words words) (sym (map-id c.loop-word.yielded) ∙ end.0)
