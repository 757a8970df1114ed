use Rattle.std.proofs.Common.{None, map, sym, ap, subst, ◌∙◌}
use Rattle.bi_blob.specs.Tree.{EachOwn, tree_without_order, tree_without_places}
use Rattle.bi_blob.specs.Lookups.{root_node}
use Rattle.bi_fdt.specs.Content.{root_of}
use Rattle.bi_fit.specs.ImageTree.{tree_without_payloads, with_image_nodes}
use Rattle.bi_fit.specs.NormalNodes.{HasDistinctNames, alone, payloads_of}
use Rattle.bi_fit.specs.Text.{with_payloads}
use Rattle.bi_fit.proofs.NormalTrees.{held_distinct}
use Rattle.bi_plain.specs.PlainNodes.{with_own_payloads}
use Rattle.bi_plain.proofs.PlainPayloads.{own_payloads_of_tree}
use Rattle.bi_plain.proofs.reader.read_plain_tree.Goals as goal

pub read_tree-requires : goal.read_tree-requires
read_tree-requires c =
    subst (λ blob. EachOwn HasDistinctNames (alone (root_node (root_of blob)))) (sym c.blob.ensures)
    (held_distinct c.args.fit.now c.requires)

pub returns : goal.returns
returns c =
    let payloads = payloads_of c.images.result.now in
    c.in_ok-set_payloads.ensures
    ∙ ap (with_image_nodes (with_own_payloads payloads))
    (c.in_ok-tree.ensures ∙ ap (λ blob. tree_without_order (tree_without_places (root_of blob))) c.blob.ensures)
    ∙ own_payloads_of_tree payloads (tree_without_order (tree_without_places (root_of c.args.fit.now.blob)))
    ∙ ap (λ images. with_image_nodes (with_payloads None 0 (map (λ image. image.payload) images))
    (tree_without_payloads (tree_without_order (tree_without_places (root_of c.args.fit.now.blob))))) c.images.ensures
