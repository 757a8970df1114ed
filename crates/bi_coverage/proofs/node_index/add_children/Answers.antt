use Rattle.std.proofs.Common.{◌++◌, map, append-nil, sym, ap, ◌∙◌}
use Rattle.bi_fdt.specs.Views.{node_of}
use Rattle.bi_fit.specs.Siblings.{siblings_left}
use Rattle.bi_coverage.proofs.node_index.add_children.Goals as goal

pub returns : goal.returns
returns c =
    sym (append-nil (map node_of c.loop-child.nodes.items))
    ∙ ap (λ l. map node_of c.loop-child.nodes.items ++ l) (sym c.in-None.ensures.steps.0)
    ∙ c.loop-child.invariant
    ∙ ap (λ l. map node_of c.args.nodes.now.items ++ l)
    (ap siblings_left c.into_iter-child-iterator.ensures.into_iter_gives ∙ c.children-child-items.ensures)
