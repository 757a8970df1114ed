use Rattle.std.proofs.Common.{sym, ap, ◌∙◌}
use Rattle.std.specs.Option.{is_some}
use Rattle.bi_tree.specs.Changes.{node_by_path}
use Rattle.bi_tree.specs.TreeNodes.{below}
use Rattle.bi_base.specs.Slices.{bytes_of}
use Rattle.bi_tree.specs.Trees.{tree_by_name}
use Rattle.bi_tree.proofs.ChangesByName.{changes_by_name}
use Rattle.bi_tree.proofs.Trees.{is_some_mapped}
use Rattle.bi_tree.proofs.tree.Tree.has_node.Goals as goal

pub returns : goal.returns
returns c =
    let path = bytes_of c.args.path.now in
    let root = below c.self.inside.root in
    c.is_some.ensures
    ∙ is_some_mapped (λ node. below node.now) c.node.result
    ∙ ap is_some c.node.ensures
    ∙ is_some_mapped tree_by_name (node_by_path root path)
    ∙ ap is_some (sym (changes_by_name.node root path) ∙ ap (λ tree. node_by_path tree path) c.self.view_is)
