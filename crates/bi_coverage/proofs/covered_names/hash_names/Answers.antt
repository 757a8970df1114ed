use Rattle.std.proofs.Common.{map, filter, refl, sym, ap, ◌∙◌}
use Rattle.bi_base.specs.Slices.{bytes_of}
use Rattle.bi_fdt.specs.Views.{node_of}
use Rattle.bi_fit.specs.Names.{is_hash_name}
use Rattle.bi_fit.specs.Siblings.{siblings_left}
use Rattle.bi_coverage.proofs.Meanings.{gathered_all, names_of_siblings}
use Rattle.bi_coverage.proofs.covered_names.hash_names.Goals as goal

pub returns : goal.returns
returns c =
    gathered_all (bytes_of c.loop-child.found.items) (bytes_of c.new-found.result.items)
    (λ l. filter is_hash_name (map (λ sibling. sibling.name) l)) (siblings_left c.loop-child.child-iterator)
    (siblings_left c.into_iter-child-iterator.result)
    c.loop-child.invariant c.in-None.ensures.steps.0 refl (ap bytes_of c.new-found.ensures.items)
    ∙ ap (λ l. filter is_hash_name (map (λ sibling. sibling.name) l))
    (ap siblings_left c.into_iter-child-iterator.ensures.into_iter_gives ∙ c.children-child-items.ensures)
    ∙ ap (filter is_hash_name) (sym (names_of_siblings (node_of c.args.image).children))
