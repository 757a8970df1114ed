use Rattle.std.proofs.Common.{rules}
use Rattle.bi_blob.proofs.NameSets.{HoldsNames-empty}
use Rattle.bi_fdt.proofs.OpenEntries.{AreOpen-held}
use Rattle.bi_fdt.proofs.growing.Growing.is_childless.Goals as goal

pub returns : goal.returns
returns c = search (rules, HoldsNames-empty, AreOpen-held)
