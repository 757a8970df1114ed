use Rattle.std.proofs.Common.{rules}
use Rattle.std.proofs.lemmas.List.{length-reverse}
use Rattle.bi_fdt.proofs.OpenEntries.{AreOpen-length}
use Rattle.bi_fdt.proofs.growing.Growing.depth.Goals as goal

pub returns : goal.returns
returns c = search (rules, AreOpen-length, length-reverse)
