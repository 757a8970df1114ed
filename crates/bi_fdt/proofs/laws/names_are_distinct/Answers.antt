use Rattle.std.proofs.Common.{[]}
use Rattle.bi_fdt.proofs.UsedNames.{names_after-distinct}
use Rattle.bi_fdt.proofs.laws.names_are_distinct.Goals as goal

pub returns : goal.returns
returns c table = names_after-distinct [] table tt
