use Rattle.std.proofs.Common.{rules}
use Rattle.bi_fdt.proofs.NumberedNames.{AreBlockNumbers-more}
use Rattle.bi_fdt.proofs.UsedNames.{on_ok, used_once_more}
use Rattle.bi_fdt.proofs.used_names.UsedNames.number_at.Goals as goal

pub invariant_of-self : goal.invariant_of-self
invariant_of-self c = search (rules, AreBlockNumbers-more)

pub returns-clause-used : goal.returns-clause-used
returns-clause-used c = search (rules, on_ok, used_once_more)
