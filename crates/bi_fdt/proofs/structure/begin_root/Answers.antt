use Rattle.std.proofs.Common.{arith}
use Rattle.bi_fdt.proofs.NameEnds.{name_there}
use Rattle.bi_fdt.proofs.TokenSteps.{up4-within}
use Rattle.bi_fdt.proofs.RootSteps.{past_root}
use Rattle.bi_fdt.proofs.structure.begin_root.Goals as goal

pub returns-clause-ok : goal.returns-clause-ok
returns-clause-ok c = grind (arith, up4-within, past_root, name_there)
