use Rattle.std.proofs.Common.{length, ap, ◌∙◌}
use Rattle.bi_fdt.specs.Views.{node_of}
use Rattle.bi_fit.proofs.Siblings.{from_first}
use Rattle.bi_fit.proofs.nodes.ImagesWithNodes.children.Goals as goal

pub invariant_of-result : goal.invariant_of-result
invariant_of-result c = record {
  paired = ap length (from_first c.first_child.result (node_of c.args.parent).children c.first_child.ensures.child) ∙ c.requires;
}
