use Rattle.std.proofs.Common.{◌∙◌, ap, lit<}
use Rattle.std.specs.Str.Iter.{split_text, split_has_more, split_pattern}
use Rattle.std.proofs.lemmas.Iterator.Consumers.{YieldsList-end}
use Rattle.std.proofs.lemmas.Iterator.Splits.{YieldsList-from_str_split}
use Rattle.bootimg.proofs.command_line.configurations.split_names.Goals as goal

pub returns : goal.returns
returns c =
    let split = c.split-name-items.ensures in
    let gives = c.into_iter-name-iterator.ensures.into_iter_gives in
    let road = YieldsList-from_str_split 44 c.args.text.now (lit< tt) (ap split_text gives ∙ split.text)
    (ap split_has_more gives ∙ split.has_more) (ap split_pattern gives ∙ split.pattern) in
    let end = YieldsList-end road c.loop-name.yielded _ c.loop-name.yielded_by _ _ c.in-None.is c.next.ensures.steps in
    c.loop-name.invariant ∙ end.0
