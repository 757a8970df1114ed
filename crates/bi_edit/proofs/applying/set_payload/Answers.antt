use Rattle.std.proofs.Common.{◌≡◌, true, [], ◌∷◌, sym, ap, ap₂, ◌∙◌}
use Rattle.std.specs.FinMap.{empty}
use Rattle.std.specs.Option.{is_some}
use Rattle.bi_fit.specs.Names.{data_name}
use Rattle.bi_tree.specs.Changes.{node_by_path, with_change_at}
use Rattle.bi_tree.specs.Trees.{with_own_value, with_value_by_path}
use Rattle.bi_edit.specs.Places.{image_path}
use Rattle.bi_edit.proofs.PresentNodes.{not_none, nodes_there}
use Rattle.bi_edit.proofs.applying.set_payload.Goals as goal

pub returns : goal.returns
returns c =
    let path = image_path c.args.image.now in
    let tree = c.args.tree.now in
    let payload = c.args.payload.now in
    let path_is = ap₂ (λ first second. first ∷ second ∷ []) c.as_slice.ensures c.as_bytes.ensures.name in
    let there : is_some (node_by_path tree path) ≡ true
    = ap (λ names. is_some (node_by_path tree names)) (sym path_is) ∙ sym c.has_node.ensures ∙ c.if-not-has_node.false in (
      not_none (node_by_path tree path) there,
      c.in_ok-set_property.ensures
          ∙ ap (λ names. with_value_by_path names data_name payload tree) path_is
          ∙ ap (with_change_at path (with_own_value data_name payload)) (nodes_there empty path tree there),
    )
