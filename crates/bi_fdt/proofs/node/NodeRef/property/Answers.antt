use Rattle.std.proofs.Common.{rules}
use Rattle.bi_fdt.proofs.NodeViews.{value_found}
use Rattle.bi_fdt.proofs.node.NodeRef.property.Goals as goal

pub returns-in_err-find_property : goal.returns-in_err-find_property
returns-in_err-find_property c = search (rules, value_found)

pub returns : goal.returns
returns c = search (rules, value_found)
