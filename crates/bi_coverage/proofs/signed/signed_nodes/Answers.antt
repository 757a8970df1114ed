use Rattle.std.proofs.Common.{map, filter, refl, sym, ap, ◌∙◌}
use Rattle.bi_fdt.specs.Views.{node_of}
use Rattle.bi_fit.specs.Siblings.{siblings_left}
use Rattle.bi_fit.proofs.FileNodes.{siblings-by_name}
use Rattle.bi_coverage.specs.Signatures.{is_signed}
use Rattle.bi_coverage.specs.Values.{meaning_of_sibling, meaning_of_node}
use Rattle.bi_coverage.proofs.Meanings.{gathered_all}
use Rattle.bi_coverage.proofs.signed.signed_nodes.Goals as goal

pub returns : goal.returns
returns c =
    gathered_all (map meaning_of_node c.loop-child.found.items) (map meaning_of_node c.new-found.result.items)
    (λ l. filter is_signed (map meaning_of_sibling l)) (siblings_left c.loop-child.child-iterator)
    (siblings_left c.into_iter-child-iterator.result)
    c.loop-child.invariant c.in-None.ensures.steps.0 refl (ap (map meaning_of_node) c.new-found.ensures.items)
    ∙ ap (λ l. filter is_signed (map meaning_of_sibling l))
    (ap siblings_left c.into_iter-child-iterator.ensures.into_iter_gives ∙ c.children-child-items.ensures)
    ∙ ap (filter is_signed) (sym (siblings-by_name (node_of c.args.configuration).children))
