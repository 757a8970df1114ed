use Rattle.std.proofs.Common.{rules}
use Rattle.bi_fdt.proofs.NodeEntries.{no_property, node_within, node_of_table}
use Rattle.bi_fdt.proofs.node.NodeRef.entry.Goals as goal

pub unreachable-requires : goal.unreachable-requires
unreachable-requires c = search (rules, no_property, node_within)

pub returns : goal.returns
returns c = search (rules, node_of_table)
