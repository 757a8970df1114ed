use Rattle.std.proofs.Common.{◌+◌, ◌<◌, drop, get_or, length, refl, sym, ap, ◌∙◌, arith}
use Rattle.bi_fit.specs.NormalNodes.{payloads_of}
use Rattle.bi_tree.specs.Changes.{named_node}
use Rattle.bi_tree.specs.TreeNodes.{below}
use Rattle.bi_tree.specs.Trees.{tree_by_name}
use Rattle.bi_plain.specs.PlainNodes.{first_or_none, with_own_payload, with_own_payloads}
use Rattle.bi_plain.proofs.ChangedNodes.{all_changed, named_before, numbered_after, one_changed}
use Rattle.bi_plain.proofs.OwnPayloads.{one_payload_fewer}
use Rattle.bi_plain.proofs.payloads.set_each_payload.Goals as goal

pub returns-in_err-set_payload-clause-numbered : goal.returns-in_err-set_payload-clause-numbered
returns-in_err-set_payload-clause-numbered c names is all =
    numbered_after names c.loop-index.nodes c.loop-index.index c.set_payload.new.node c.index-nodes-index.result
    (omega (arith, c.loop-index-test.true, c.loop-index.auto.nodes)) (c.set_payload.ensures.numbered names is)
    (c.loop-index.invariant.1 names is all)

pub loop-index-preserved : goal.loop-index-preserved
loop-index-preserved c =
    let nodes = c.loop-index.nodes in
    let index = c.loop-index.index in
    let new = c.set_payload.new.node in
    let old = get_or nodes index c.index-nodes-index.result in
    let payloads = payloads_of c.args.images.now in
    let left = drop index payloads in
    let rest = drop (index + 1) payloads in
    let given = with_own_payload (first_or_none left) (tree_by_name (below old)) in
    let within : index < length nodes = omega (arith, c.loop-index-test.true, c.loop-index.auto.nodes) in (
      one_changed (with_own_payloads left) (with_own_payloads rest) nodes index new c.index-nodes-index.result within
          (λ later. named_before new old given c.in_ok-set_payload.ensures.name
          (c.in_ok-set_payload.ensures.set
          ∙ ap (λ payload. with_own_payload payload (tree_by_name (below old))) c.payload_at.ensures)
          (with_own_payloads rest later)
          ∙ ap (λ l. named_node old.name given (with_own_payloads l later)) (one_payload_fewer payloads index))
          ∙ c.loop-index.invariant.0,
      λ names is all. numbered_after names nodes index new c.index-nodes-index.result within (c.set_payload.ensures.numbered names is)
          (c.loop-index.invariant.1 names is all),
    )

pub returns-clause-set : goal.returns-clause-set
returns-clause-set c =
    sym (all_changed (with_own_payloads (drop c.loop-index.index (payloads_of c.args.images.now))) refl c.loop-index.index
    c.loop-index.nodes (omega (arith, c.loop-index-test.false, c.loop-index.auto.nodes)))
    ∙ c.loop-index.invariant.0
