use Rattle.bi_fdt.specs.Views.{node_of}
use Rattle.bi_fit.proofs.Siblings.{from_first}
use Rattle.bi_fit.proofs.nodes.Siblings.children.Goals as goal

pub returns : goal.returns
returns c = from_first c.first_child.result (node_of c.args.parent).children c.first_child.ensures.child
