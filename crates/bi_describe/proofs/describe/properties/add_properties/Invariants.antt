use Rattle.std.proofs.Common.{◌≡◌, [], ◌∷◌, ◌++◌, map}
use Rattle.bi_blob.specs.Tree.{property_of}
use Rattle.bi_fdt.specs.Views.{node_of}
use Rattle.bi_fit.specs.NormalNodes.{properties_by_name}
use Rattle.bi_describe.specs.TreeEntries.{ChildrenBegin, PropertyEntry, as_entry, property_entries}
use Rattle.bi_describe.proofs.describe.properties.add_properties.Given as goal

-- The entries so far and those of the properties that are left are all.
abbrev pub invariant-loop-property : goal.invariant-loop-property
invariant-loop-property l =
    map as_entry l.entries.items ++ (map PropertyEntry (map (λ keyed. property_of keyed.1) l.property-iterator) ++ ChildrenBegin ∷ [])
    ≡ map as_entry l.fn.entries.items ++ property_entries (properties_by_name (node_of l.node).own)
