use Rattle.std.proofs.Common.{◌≡◌, ℕ, List, ◌+◌, ◌-◌, ◌≤◌, length, map, take, drop, ap, ap₂, ◌∙◌, arith, rules}
use Rattle.bi_fdt.specs.Order.{AreByNumber, IsNumberOrder, keyed_properties, pairs_of_node}
use Rattle.bi_fdt.specs.Table.{item_in}
use Rattle.bi_fdt.specs.Views.{node_of, table_of_node}
use Rattle.bi_blob.specs.Tree.{AreDistinct, properties_of}
use Rattle.bi_fdt.proofs.ByName.{by_rank_by_name}
use Rattle.bi_fdt.proofs.KeyedProperties.{node_by_number}
use Rattle.bi_fdt.proofs.NodeViews.{properties_within, property_count_is}
use Rattle.bi_fdt.proofs.node.NodeRef.properties_in.Goals as goal

pub overflow_add-end : goal.overflow_add-end
overflow_add-end c = search (rules, properties_within)

pub slice_bounds-new-end : goal.slice_bounds-new-end
slice_bounds-new-end c =
    let r = c.args.self in
    let within : r.index + 1 + c.entry.result.property_count ≤ length r.blob.now.table = properties_within r.blob.now.file r.blob.now.table
    r.index c.entry.result c.entry.ensures in
    let long : length c.pairs.result.now ≡ length r.blob.now.table = ap length c.pairs.ensures ∙ c.requires.1.count in
    search rules

-- The properties are those at the indices of the pairs of the node.
result_is : (c : goal.After-new) → c.new.result ≡ keyed_properties c.args.self.blob.now.table
    (pairs_of_node c.args.self.blob.now.table c.args.self.index c.args.order.now)
result_is c =
    let r = c.args.self in
    let count : c.entry.result.property_count ≡ length (node_of r).own.properties =
    property_count_is r.blob.now.file r.blob.now.table r.index c.entry.result c.entry.ensures in
    let many : r.index + 1 + c.entry.result.property_count - (r.index + 1) ≡ length (node_of r).own.properties = omega arith in
    c.new.ensures
    ∙ ap₂ keyed_properties (ap (λ file. map (item_in file) c.entries.result.now) c.file.ensures ∙ c.entries.ensures.items)
    (ap₂ (λ n pairs. take n (drop (r.index + 1) pairs)) many c.pairs.ensures)

numbered : (c : goal.After-new) → (names : List (List ℕ)) → IsNumberOrder names (table_of_node c.args.self) c.args.order.now →
    AreDistinct (map (λ property. property.0) (properties_of (node_of c.args.self).own)) →
    AreByNumber names (node_of c.args.self).own.properties c.new.result
numbered c names is distinct = search (rules, result_is, node_by_number)

pub returns-clause-by_number : goal.returns-clause-by_number
returns-clause-by_number c names is distinct = numbered c names is distinct

pub returns-clause-by_name : goal.returns-clause-by_name
returns-clause-by_name c names is distinct ascend = search (rules, by_rank_by_name, numbered)
