use Rattle.std.proofs.Common.{ap, ◌∙◌}
use Rattle.std.proofs.lemmas.List.{with_items_is}
use Rattle.std.proofs.lemmas.Result.{on_ok_weaker}
use Rattle.bi_tree.specs.Trees.{by_name}
use Rattle.bi_tree.specs.Trees.{tree_by_name}
use Rattle.bi_fit.specs.ImageTree.{with_image_nodes}
use Rattle.bi_tree.specs.Properties.{tree_properties}
use Rattle.bi_tree.specs.TreeNodes.{below}
use Rattle.bi_edit.specs.Edits.{with_payload_digests}
use Rattle.bi_plain.specs.PlainNodes.{models_by_name}
use Rattle.bi_plain.proofs.ChangedNodes.{changed_below}
use Rattle.bi_edit.proofs.applying.digests.set_root_digests.Goals as goal

pub returns-clause-set : goal.returns-clause-set
returns-clause-set c =
    on_ok_weaker c.set_digests_among.result
    (λ is.
    ap (λ nodes. record { own = by_name (tree_properties c.root.inside.properties.items); children = nodes })
    (ap models_by_name
    (with_items_is c.root.inside.children c.set_digests_among.new.nodes (c.set_digests_among.auto.nodes ∙ c.deref_mut.ensures.len))
    ∙ is
    ∙ ap (λ nodes. changed_below with_payload_digests (models_by_name nodes)) c.deref_mut.ensures.value)
    ∙ ap (λ top. with_image_nodes with_payload_digests (tree_by_name (below top))) c.root.view_is)
    c.set_digests_among.ensures.set
