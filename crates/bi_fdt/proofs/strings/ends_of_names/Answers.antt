use Rattle.std.proofs.Common.{rules}
use Rattle.bi_fdt.proofs.NameEnds.{later_end, ends_more}
use Rattle.bi_fdt.proofs.strings.ends_of_names.Goals as goal

pub loop-index-preserved : goal.loop-index-preserved
loop-index-preserved c = search (rules, ends_more, later_end)
