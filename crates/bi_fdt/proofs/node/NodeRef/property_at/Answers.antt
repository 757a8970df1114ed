use Rattle.std.proofs.Common.{◌≡◌, length, drop, Some, sym, ap, ◌∙◌, arith, rules}
use Rattle.std.proofs.lemmas.List.{length-map}
use Rattle.bi_blob.specs.Tree.{FileProperty, property_of}
use Rattle.bi_fdt.specs.Content.{first_sibling}
use Rattle.bi_fdt.specs.Properties.{file_property_of}
use Rattle.bi_fdt.specs.Table.{property_in}
use Rattle.bi_fdt.proofs.NodeEntries.{get_past, get_map}
use Rattle.bi_fdt.proofs.NodeViews.{property_count_is, property_within, no_node_there, property_there}
use Rattle.bi_fdt.proofs.node.NodeRef.property_at.Goals as goal

pub returns-then-index-node : goal.returns-then-index-node
returns-then-index-node c = search (rules, property_count_is, length-map, get_past)

pub overflow_add-entry-2 : goal.overflow_add-entry-2
overflow_add-entry-2 c = search (rules, property_count_is, property_within)

pub offset_bounds-entries-self : goal.offset_bounds-entries-self
offset_bounds-entries-self c = search (rules, property_count_is, property_within)

pub bounds-entries-self : goal.bounds-entries-self
bounds-entries-self c =
    let r = c.args.self in
    let count : c.entry-node.result.property_count
    ≡ length (first_sibling (drop r.index r.blob.now.table)).own.properties = property_count_is r.blob.now.file r.blob.now.table r.index
    c.entry-node.result c.entry-node.ensures in
    property_within r.blob.now.file c.entries.result.now r.blob.now.table r.index c.entry-node.result c.entries.ensures.items
    c.entry-node.ensures c.args.index (omega arith)

pub unreachable-requires : goal.unreachable-requires
unreachable-requires c =
    let r = c.args.self in
    let count : c.entry-node.result.property_count
    ≡ length (first_sibling (drop r.index r.blob.now.table)).own.properties = property_count_is r.blob.now.file r.blob.now.table r.index
    c.entry-node.result c.entry-node.ensures in
    no_node_there r.blob.now.file c.entries.result.now r.blob.now.table r.index c.entry-node.result c.entries.ensures.items
    c.entry-node.ensures c.args.index (omega arith) c.in-Node.field-0 _ c.in-Node.is

pub returns : goal.returns
returns c =
    let r = c.args.self in
    let count : c.entry-node.result.property_count
    ≡ length (first_sibling (drop r.index r.blob.now.table)).own.properties = property_count_is r.blob.now.file r.blob.now.table r.index
    c.entry-node.result c.entry-node.ensures in
    let property : FileProperty = property_in r.blob.now.file c.in-Property.property in
    let same : file_property_of c.property_in-property.result ≡ property = c.property_in-property.ensures
    ∙ ap (λ file. property_in file c.in-Property.property) c.file.ensures in
    ap (λ p. Some (property_of p)) same
    ∙ sym (get_map property_of (first_sibling (drop r.index r.blob.now.table)).own.properties c.args.index property
    (property_there r.blob.now.file c.entries.result.now r.blob.now.table r.index c.entry-node.result c.entries.ensures.items
    c.entry-node.ensures c.args.index (omega arith) c.in-Property.property c.in-Property.field-1 _ c.in-Property.is))
