use Rattle.std.proofs.Common.{ap, ◌++◌, ◌∙◌}
use Rattle.bi_base.specs.Cells.{cell}
use Rattle.bi_fit.specs.Names.{timestamp_name}
use Rattle.bi_tree.specs.Trees.{with_own_value}
use Rattle.bi_edit.proofs.applying.set_time.Goals as goal

pub returns : goal.returns
unfolding cell
returns c =
    c.in_ok-set_property.ensures
    ∙ ap (λ bytes. with_own_value timestamp_name bytes c.args.tree.now)
    (c.in_ok-extend_from_slice.ensures.items
    ∙ ap (λ bytes. bytes ++ c.to_be_bytes.result) c.in_ok-value.ensures.items
    ∙ c.to_be_bytes.ensures)
