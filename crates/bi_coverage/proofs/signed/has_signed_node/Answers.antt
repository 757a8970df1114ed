use Rattle.std.proofs.Common.{◌||◌, map, sym, ap, ◌∙◌}
use Rattle.std.specs.List.{list_any}
use Rattle.bi_fdt.specs.Views.{node_of}
use Rattle.bi_fit.specs.Siblings.{siblings_left}
use Rattle.bi_fit.proofs.FileNodes.{siblings-by_name}
use Rattle.bi_coverage.specs.Signatures.{is_signed}
use Rattle.bi_coverage.specs.Values.{meaning_of_sibling}
use Rattle.bi_coverage.proofs.signed.has_signed_node.Goals as goal

pub returns-then-is_signed : goal.returns-then-is_signed
returns-then-is_signed c =
    ap (λ b. b || list_any is_signed (map meaning_of_sibling (siblings_left c.next.new.self)))
    (sym c.if-is_signed.true ∙ c.is_signed.ensures)
    ∙ ap (λ l. list_any is_signed (map meaning_of_sibling l)) (sym c.in-Some.ensures.steps)
    ∙ c.loop-child.invariant
    ∙ ap (λ l. list_any is_signed (map meaning_of_sibling l))
    (ap siblings_left c.into_iter-child-iterator.ensures.into_iter_gives ∙ c.children-child-items.ensures)
    ∙ ap (list_any is_signed) (sym (siblings-by_name (node_of c.args.configuration).children))

pub returns : goal.returns
returns c =
    ap (λ l. list_any is_signed (map meaning_of_sibling l)) (sym c.in-None.ensures.steps.0)
    ∙ c.loop-child.invariant
    ∙ ap (λ l. list_any is_signed (map meaning_of_sibling l))
    (ap siblings_left c.into_iter-child-iterator.ensures.into_iter_gives ∙ c.children-child-items.ensures)
    ∙ ap (list_any is_signed) (sym (siblings-by_name (node_of c.args.configuration).children))
