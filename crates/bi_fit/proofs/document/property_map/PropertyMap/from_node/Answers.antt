use Rattle.std.proofs.Common.{ap}
use Rattle.bi_fdt.specs.Order.{AreByNumber}
use Rattle.bi_fdt.specs.Views.{node_of}
use Rattle.bi_blob.specs.Tree.{properties_of}
use Rattle.bi_fit.specs.PropertyMapModels.{among}
use Rattle.bi_fit.proofs.KeyedEntries.{entries_ascend, entries_within, entries_by_name}
use Rattle.bi_fit.proofs.document.property_map.PropertyMap.from_node.Goals as goal

pub invariant_of-result : goal.invariant_of-result
invariant_of-result c =
    let names = c.args.order.now.names in
    let by : AreByNumber names (node_of c.args.node).own.properties c.properties_in-properties.result =
    c.properties_in-properties.ensures.by_number names c.requires.order.in_order c.requires.distinct in
    record {
      in_order = c.requires.order.sorted;
      within = entries_within names c.properties_in-properties.result c.in_ok-entries.entries.items c.in_ok-entries.ensures by.numbered;
      ascending = entries_ascend c.properties_in-properties.result c.in_ok-entries.entries.items c.in_ok-entries.ensures by.ascending;
    }

pub returns : goal.returns
returns c =
    let names = c.args.order.now.names in
    let by : AreByNumber names (node_of c.args.node).own.properties c.properties_in-properties.result =
    c.properties_in-properties.ensures.by_number names c.requires.order.in_order c.requires.distinct in
    ap (among names)
    (entries_by_name names c.requires.order.sorted c.properties_in-properties.result c.in_ok-entries.entries.items
    c.in_ok-entries.ensures by.numbered by.ascending
    (properties_of (node_of c.args.node).own)
    (c.properties_in-properties.ensures.by_name names c.requires.order.in_order c.requires.distinct c.requires.order.sorted))
