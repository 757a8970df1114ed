use Rattle.std.proofs.Common.{◌≡◌, Some, sym, ap, ◌∙◌}
use Rattle.std.specs.Option.{option_map}
use Rattle.bi_blob.specs.Lookups.{Sibling, siblings, node_named, root_node}
use Rattle.bi_blob.specs.Tree.{FileNode}
use Rattle.bi_fdt.specs.Content.{Blob, root_of}
use Rattle.bi_fdt.specs.Views.{node_of}
use Rattle.bi_fit.specs.ImageTree.{nodes_or_none}
use Rattle.bi_fit.specs.Names.{configurations_name}
use Rattle.bi_fit.proofs.Siblings.{from_first}
use Rattle.bi_coverage.proofs.reading.first_configuration.Goals as goal

pub returns-clause-node : goal.returns-clause-node
returns-clause-node c =
    let parent = node_of c.in_ok-configurations.configurations in
    let found : option_map node_of c.child.result ≡ node_named (root_of c.args.fit.now.blob).children configurations_name =
    c.child.ensures.child
    ∙ ap (λ (root : Sibling FileNode). node_named root.children configurations_name)
    (c.root.ensures.root ∙ ap (λ (blob : Blob). root_node (root_of blob)) c.blob.ensures) in
    let is : Some parent ≡ node_named (root_of c.args.fit.now.blob).children configurations_name =
    ap (option_map node_of) (sym c.in_ok-configurations.was) ∙ found in
    from_first c.first_child.result parent.children c.first_child.ensures.child
    ∙ ap (λ found. siblings (nodes_or_none (option_map (λ (found : Sibling FileNode). found.children) found))) is
