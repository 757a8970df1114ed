use Rattle.std.proofs.Common.{rules}
use Rattle.bi_fdt.proofs.NumberedNames.{AreHeads-tails}
use Rattle.bi_fdt.proofs.name_table.NameTable.block_numbers.Goals as goal

pub returns-clause-table : goal.returns-clause-table
returns-clause-table c = search (rules, AreHeads-tails)
