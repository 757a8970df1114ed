use Rattle.std.proofs.Common.{sym, ap, rules}
use Rattle.bi_blob.specs.Lookups.{node_at}
use Rattle.bi_fdt.proofs.NodeViews.{properties_within, no_child, first_child_there}
use Rattle.bi_fdt.proofs.node.NodeRef.first_child.Goals as goal

pub overflow_add-index-2 : goal.overflow_add-index-2
overflow_add-index-2 c = search (rules, properties_within)

pub returns-then-index-node-clause-child : goal.returns-then-index-node-clause-child
returns-then-index-node-clause-child c =
    let r = c.args.self in
    sym (ap (λ nodes. node_at nodes 0)
    (no_child r.blob.now.file r.blob.now.table r.index c.entry-node.result c.entry-node.ensures c.if-index-node.true))

pub invariant_of-result : goal.invariant_of-result
invariant_of-result c =
    let r = c.args.self in
    record {
      is_node = (first_child_there r.blob.now.file r.blob.now.table r.index c.entry-node.result c.entry-node.ensures
          c.if-index-node.false).0;
      small = r.small;
    }

pub returns-clause-child : goal.returns-clause-child
returns-clause-child c =
    let r = c.args.self in
    (first_child_there r.blob.now.file r.blob.now.table r.index c.entry-node.result c.entry-node.ensures c.if-index-node.false).1
