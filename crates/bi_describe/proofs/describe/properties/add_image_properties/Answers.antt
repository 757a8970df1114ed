use Rattle.std.proofs.Common.{[], ◌∷◌, ◌++◌, List, map, sym, ap, ◌∙◌, append_assoc}
use Rattle.bi_blob.specs.Tree.{Property, property_of}
use Rattle.bi_fdt.specs.Views.{node_of}
use Rattle.bi_fit.specs.NormalNodes.{properties_by_name}
use Rattle.bi_fit.specs.ImageTree.{without_payload}
use Rattle.bi_fdt.specs.Order.{KeyedProperty}
use Rattle.std.specs.FinMap.{entries}
use Rattle.bi_describe.specs.declared.describe.entries.Entry.TheVariants as made
use Rattle.bi_describe.specs.TreeEntries.{EntryModel, ChildrenBegin, PropertiesBegin, PropertyEntry, as_entry}
use Rattle.bi_describe.proofs.EntriesOfNodes.{entries-push}
use Rattle.bi_describe.proofs.KeptProperties.{others_of, entries_without}
use Rattle.bi_describe.proofs.describe.properties.add_image_properties.Goals as goal

pub loop-property-init : goal.loop-property-init
loop-property-init c =
    let start = c.args.entries.now.items in
    let order = c.requires.order in
    let rest : List Property → List EntryModel = λ left. map PropertyEntry left ++ ChildrenBegin ∷ [] in
    let kept = entries (without_payload (properties_by_name (node_of c.args.node).own)) in
    ap (λ left. map as_entry c.push.new.self.items ++ rest (others_of left))
    (ap (λ (keyed : List KeyedProperty). map (λ one. property_of one.1) keyed) c.into_iter-property-iterator.ensures.into_iter_gives
    ∙ c.properties_in-property-items.ensures.by_name order.names order.in_order c.requires.distinct order.sorted)
    ∙ ap (λ left. map as_entry c.push.new.self.items ++ rest left) (sym (entries_without (properties_by_name (node_of c.args.node).own)))
    ∙ ap (λ items. map as_entry items ++ rest kept) c.in_ok-push.ensures.items
    ∙ ap (λ (before : List EntryModel). before ++ rest kept) (entries-push start made.Properties)
    ∙ append_assoc (map as_entry start) (PropertiesBegin ∷ []) (rest kept)
