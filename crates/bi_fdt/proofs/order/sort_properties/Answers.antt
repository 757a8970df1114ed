use Rattle.std.proofs.Common.{rules, ◌≡◌, ◌+◌, ◌-◌, ◌<◌, ◌≤◌, length, refl, sym, subst, arith}
use Rattle.bi_fdt.specs.Content.{root_of}
use Rattle.bi_fdt.specs.Views.{node_in}
use Rattle.bi_fdt.proofs.NodeEntries.{node_within}
use Rattle.bi_fdt.proofs.NodeViews.{properties_within, property_count_is}
use Rattle.bi_fdt.proofs.PropertyOrders.{AreInOrderBefore, node_entry_at, no_node_entry, node_more, no_node_more}
use Rattle.bi_fdt.proofs.order.sort_properties.Goals as goal
use Rattle.bi_fdt.proofs.order.sort_properties.Goals.{in-Node, in_default}

pub slice_bounds-sort_unstable-end : goal.slice_bounds-sort_unstable-end
slice_bounds-sort_unstable-end c =
    let blob = c.args.blob.now in
    let there = node_entry_at blob.file c.entries-entry-items.result.now blob.table c.entries-entry-items.ensures.items (root_of blob)
    c.entries-entry-items.ensures.is_table c.loop-index.index c.in-Node.node _ c.loop-index-test.true c.in-Node.is in
    let within : c.loop-index.index + 1 + c.in-Node.node.property_count ≤ length blob.table =
    properties_within blob.file blob.table c.loop-index.index c.in-Node.node there.1 in
    let long : length c.loop-index.pairs ≡ length blob.table = omega (arith, c.loop-index.invariant.count, c.requires) in
    search rules

pub loop-index-preserved : goal.loop-index-preserved
loop-index-preserved c = elim c.match-entry.branch [
  | in-Node w ↦
      let blob = c.args.blob.now in
      let there = node_entry_at blob.file c.entries-entry-items.result.now blob.table c.entries-entry-items.ensures.items (root_of blob)
      c.entries-entry-items.ensures.is_table c.loop-index.index w.in-Node.node _ c.loop-index-test.true w.in-Node.is in
      let within : c.loop-index.index + 1 + w.in-Node.node.property_count ≤ length blob.table =
      properties_within blob.file blob.table c.loop-index.index w.in-Node.node there.1 in
      let long : length c.loop-index.pairs ≡ length blob.table = omega (arith, c.loop-index.invariant.count, c.requires) in
      let count : w.in-Node.node.property_count ≡ length (node_in blob.table c.loop-index.index).own.properties =
      property_count_is blob.file blob.table c.loop-index.index w.in-Node.node there.1 in
      subst (AreInOrderBefore blob.table (c.loop-index.index + 1) c.args.pairs.now) (sym w.pairs-is)
      (node_more blob.table c.loop-index.index (c.loop-index.index + 1) (c.loop-index.index + 1 + w.in-Node.node.property_count -
      (c.loop-index.index + 1))
      c.args.pairs.now c.loop-index.pairs w.sort_unstable.new.self there.0 refl (omega arith) (omega arith)
      c.loop-index.invariant w.sort_unstable.ensures.permutation w.sort_unstable.ensures.sorted)
  | in_default w ↦
      let blob = c.args.blob.now in
      subst (AreInOrderBefore blob.table (c.loop-index.index + 1) c.args.pairs.now) (sym w.pairs-is)
      (no_node_more blob.table c.loop-index.index c.args.pairs.now c.loop-index.pairs
      (no_node_entry blob.file c.entries-entry-items.result.now blob.table c.entries-entry-items.ensures.items c.loop-index.index
      w.in_default.field-0 w.in_default.field-1 _ c.loop-index-test.true w.in_default.is)
      c.loop-index.invariant)
]

pub returns-clause-each : goal.returns-clause-each
returns-clause-each c index is =
    let blob = c.args.blob.now in
    let within : index < length c.entries-entry-items.result.now =
    node_within blob.file c.entries-entry-items.result.now blob.table index c.entries-entry-items.ensures.items is in
    c.loop-index.invariant.done index is (omega (arith, within, c.loop-index-test.false))
