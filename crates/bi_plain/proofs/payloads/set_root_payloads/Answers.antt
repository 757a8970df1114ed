use Rattle.std.proofs.Common.{ap, ◌∙◌}
use Rattle.std.proofs.lemmas.List.{with_items_is}
use Rattle.std.proofs.lemmas.Result.{on_ok_weaker}
use Rattle.bi_fit.specs.ImageTree.{with_image_nodes}
use Rattle.bi_fit.specs.NormalNodes.{payloads_of}
use Rattle.bi_tree.specs.Properties.{tree_properties}
use Rattle.bi_tree.specs.TreeNodes.{below}
use Rattle.bi_tree.specs.Trees.{by_name, tree_by_name}
use Rattle.bi_plain.specs.PlainNodes.{models_by_name, with_own_payloads}
use Rattle.bi_plain.proofs.ChangedNodes.{changed_below}
use Rattle.bi_plain.proofs.payloads.set_root_payloads.Goals as goal

pub returns-clause-set : goal.returns-clause-set
returns-clause-set c =
    let change = with_own_payloads (payloads_of c.args.images.now) in
    on_ok_weaker c.set_payloads_among.result
    (λ is.
    ap (λ nodes. record { own = by_name (tree_properties c.root.inside.properties.items); children = nodes })
    (ap models_by_name
    (with_items_is c.root.inside.children c.set_payloads_among.new.nodes (c.set_payloads_among.auto.nodes ∙ c.deref_mut.ensures.len))
    ∙ is
    ∙ ap (λ nodes. changed_below change (models_by_name nodes)) c.deref_mut.ensures.value)
    ∙ ap (λ top. with_image_nodes change (tree_by_name (below top))) c.root.view_is)
    c.set_payloads_among.ensures.set
