use Rattle.std.proofs.Common.{◌≡◌, ◌+◌, ◌-◌, ◌≤◌, length, map, take, drop, sym, ap, ◌∙◌, arith, rules}
use Rattle.std.proofs.lemmas.List.{length-map}
use Rattle.bi_fdt.specs.Table.{item_in}
use Rattle.bi_fdt.specs.TableItems.{first_properties}
use Rattle.bi_fdt.proofs.NodeViews.{properties_within, properties_there}
use Rattle.bi_fdt.proofs.node.NodeRef.properties.Goals as goal

pub overflow_add-end : goal.overflow_add-end
overflow_add-end c = search (rules, properties_within)

pub slice_bounds-new-end : goal.slice_bounds-new-end
slice_bounds-new-end c =
    let r = c.args.self in
    let within : r.index + 1 + c.entry.result.property_count ≤ length r.blob.now.table = properties_within r.blob.now.file r.blob.now.table
    r.index c.entry.result c.entry.ensures in
    let long : length c.entries-entries.result.now ≡ length r.blob.now.table = sym (simp length-map)
    ∙ ap length c.entries-entries.ensures.items in
    search rules

pub returns : goal.returns
returns c =
    let r = c.args.self in
    c.new.ensures
    ∙ ap (λ file. first_properties (map (item_in file)
    (take (r.index + 1 + c.entry.result.property_count - (r.index + 1)) (drop (r.index + 1) c.entries-entries.result.now)))) c.file.ensures
    ∙ ap (λ k. first_properties (map (item_in r.blob.now.file) (take k (drop (r.index + 1) c.entries-entries.result.now)))) (omega arith)
    ∙ properties_there r.blob.now.file r.blob.now.table r.index c.entry.result c.entry.ensures c.entries-entries.result.now
    c.entries-entries.ensures.items
