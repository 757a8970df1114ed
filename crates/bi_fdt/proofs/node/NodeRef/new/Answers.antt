use Rattle.std.proofs.Common.{rules}
use Rattle.bi_fdt.proofs.NodeViews.{root_there}
use Rattle.bi_fdt.proofs.node.NodeRef.new.Goals as goal

pub returns-clause-root : goal.returns-clause-root
returns-clause-root c = search (rules, root_there)
