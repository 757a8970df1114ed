use Rattle.std.proofs.Common.{length, sym, ap, ◌∙◌}
use Rattle.std.proofs.lemmas.List.{length-map}
use Rattle.std.proofs.lemmas.Slice.Zip.{AllZip-long}
use Rattle.std.specs.Option.{option_map}
use Rattle.bi_blob.specs.Lookups.{siblings}
use Rattle.bi_fdt.specs.Views.{node_of}
use Rattle.bi_fit.specs.Content.{IsReadImage, image_model}
use Rattle.bi_fit.specs.HashNodes.{file_images}
use Rattle.bi_fit.specs.ImageTree.{nodes_or_none}
use Rattle.bi_fit.proofs.Siblings.{from_first}
use Rattle.bi_fit.proofs.fit.Fit.images_with_nodes.Goals as goal

pub children-requires : goal.children-requires
children-requires c =
    let content = c.args.self.now in
    ap (λ found. length (siblings (nodes_or_none (option_map (λ found. found.children) found)))) c.images_node.ensures.node
    ∙ sym (AllZip-long (IsReadImage content.blob.file) (siblings (file_images content.blob)) content.images c.give_invariant.ensures.images)
    ∙ ap length (sym c.images.ensures)
    ∙ length-map c.images.result.now image_model

pub returns-clause-nodes : goal.returns-clause-nodes
returns-clause-nodes c =
    from_first c.children.result.next (node_of c.images_node.result).children c.children.ensures.child
    ∙ ap (λ found. siblings (nodes_or_none (option_map (λ found. found.children) found))) c.images_node.ensures.node
