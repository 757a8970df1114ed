use Rattle.std.proofs.Common.{rules}
use Rattle.bi_fdt.proofs.TreeNames.{table_names_in_tree}
use Rattle.bi_fdt.proofs.blob.Blob.names.Goals as goal

pub returns-clause-in_tree : goal.returns-clause-in_tree
returns-clause-in_tree c = search (rules, table_names_in_tree)
