use Rattle.std.proofs.Common.{ap, ◌∙◌}
use Rattle.std.specs.Option.{option_and_then}
use Rattle.bi_tree.specs.TreeNodes.{below}
use Rattle.bi_base.specs.Slices.{bytes_of}
use Rattle.bi_tree.specs.Trees.{value_by_path, first_value}
use Rattle.bi_tree.proofs.Trees.{value_on_path}
use Rattle.bi_tree.proofs.tree.Tree.value.Goals as goal

pub returns-in-Some : goal.returns-in-Some
returns-in-Some c =
    let path = bytes_of c.args.path.now in
    let name = c.args.name.now in
    c.value.ensures
    ∙ ap (λ found. option_and_then (λ node. first_value node.own name) found) c.in-Some.ensures
    ∙ value_on_path (below c.self.inside.root) path name
    ∙ ap (λ tree. value_by_path tree path name) c.self.view_is

pub returns-in-None : goal.returns-in-None
returns-in-None c =
    let path = bytes_of c.args.path.now in
    let name = c.args.name.now in
    ap (λ found. option_and_then (λ node. first_value node.own name) found) c.in-None.ensures
    ∙ value_on_path (below c.self.inside.root) path name
    ∙ ap (λ tree. value_by_path tree path name) c.self.view_is
