use Rattle.std.proofs.Common.{◌∙◌}
use Rattle.bi_show.proofs.LayoutFacts.{table_before_part, table_without_parts}
use Rattle.bi_show.proofs.show.layout.legacy.part_table_end.Goals as goal

pub returns-in-Some : goal.returns-in-Some
returns-in-Some c = c.from.ensures ∙ table_before_part c.args.image.now.image c.in-Some.place c.requires.has c.in-Some.ensures

pub returns-in-None : goal.returns-in-None
returns-in-None c = table_without_parts c.args.image.now.image c.in-None.ensures
