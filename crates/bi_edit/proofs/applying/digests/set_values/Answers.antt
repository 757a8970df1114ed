use Rattle.std.proofs.Common.{get_or, ◌<◌, List, ℕ, ◌∷◌, Vec, Global, Option, option_map, map, length, sym, ap, ◌∙◌, arith}
use Rattle.std.proofs.lemmas.List.{nil_from_length, set-get_or}
use Rattle.std.specs.Vec.Iter.{into_iter_items}
use Rattle.bi_blob.specs.Tree.{Nodes, PropertyMap}
use Rattle.bi_tree.specs.Trees.{tree_by_name}
use Rattle.bi_tree.specs.TreeNodes.{below}
use Rattle.bi_edit.specs.PayloadDigests.{with_digest_if, with_each_digest}
use Rattle.bi_plain.specs.PlainNodes.{models_by_name}
use Rattle.bi_plain.proofs.ChangedNodes.{all_changed, changed_after, numbered_after, named_before, one_changed, others_stay}
use Rattle.bi_edit.proofs.GivenDigests.{no_nodes_given}
use Rattle.bi_edit.proofs.applying.digests.set_values.Goals as goal

-- Nodes with as many digests.
abbrev given : List (Option (Vec ℕ Global)) → Nodes PropertyMap → Nodes PropertyMap
given digests nodes = with_each_digest (map (option_map (λ bytes. bytes.items)) digests) nodes

pub returns-in_default-clause-set : goal.returns-in_default-clause-set
returns-in_default-clause-set c =
    let nodes = c.loop-node.nodes in
    let index = c.loop-node.node-index in
    let none = nil_from_length (into_iter_items c.loop-node.left) (sym c.loop-node.invariant.2 ∙ c.in_default.ensures.cases.0) in
    ap models_by_name (set-get_or nodes index c.node-item.result)
    ∙ sym (others_stay index (models_by_name nodes))
    ∙ ap (λ digests. changed_after index (given digests) (models_by_name nodes)) (sym none)
    ∙ c.loop-node.invariant.0
    ∙ ap (λ digests. given digests (models_by_name c.args.nodes.now)) c.into_iter-left.ensures.rest

pub returns-in_err-set_value-clause-numbered : goal.returns-in_err-set_value-clause-numbered
returns-in_err-set_value-clause-numbered c names is all =
    numbered_after names c.loop-node.nodes c.loop-node.node-index c.set_value.new.node c.node-item.result
    (omega (arith, c.loop-node-test.true)) (c.set_value.ensures.numbered names is) (c.loop-node.invariant.1 names is all)

pub loop-node-preserved : goal.loop-node-preserved
loop-node-preserved c =
    let nodes = c.loop-node.nodes in
    let index = c.loop-node.node-index in
    let new = c.set_value.new.node in
    let old = get_or nodes index c.node-item.result in
    let first = c.in-Some.digest in
    let rest = into_iter_items c.next.new.self in
    let within : index < length nodes = omega (arith, c.loop-node-test.true) in
    let is = c.in-Some.ensures.cases in (
      one_changed (given (first ∷ rest)) (given rest) nodes index new c.node-item.result within
          (λ later. named_before new old (with_digest_if (option_map (λ bytes. bytes.items) first) (tree_by_name (below old)))
          c.in_ok-set_value.ensures.name c.in_ok-set_value.ensures.set (given rest later))
          ∙ ap (λ digests. changed_after index (given digests) (models_by_name nodes)) (sym is.0)
          ∙ c.loop-node.invariant.0,
      λ names is all. numbered_after names nodes index new c.node-item.result within (c.set_value.ensures.numbered names is)
          (c.loop-node.invariant.1 names is all),
      omega (arith, is.1, c.loop-node.invariant.2, ap length is.0),
    )

pub returns-clause-set : goal.returns-clause-set
returns-clause-set c =
    let nodes = c.loop-node.nodes in
    let index = c.loop-node.node-index in
    let left = into_iter_items c.loop-node.left in
    sym (all_changed (given left) (no_nodes_given (map (option_map (λ bytes. bytes.items)) left)) index nodes
    (omega (arith, c.loop-node-test.false)))
    ∙ c.loop-node.invariant.0
    ∙ ap (λ digests. given digests (models_by_name c.args.nodes.now)) c.into_iter-left.ensures.rest
