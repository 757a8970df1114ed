use Rattle.std.proofs.Common.{◌≡◌, ◌++◌, map}
use Rattle.std.specs.List.{AllByRecursion}
use Rattle.bi_fdt.specs.Views.{node_of}
use Rattle.bi_c.specs.TreeElements.{property_in_tree}
use Rattle.bi_c.specs.TreeRegions.{HasPropertyBytes}
use Rattle.bi_c.proofs.all_nodes.add_properties.Given as goal

-- The elements so far and those of the properties that are left are all elements.
abbrev pub invariant-loop-property : goal.invariant-loop-property
invariant-loop-property l = record {
  so_far : l.elements.items ++ map (property_in_tree l.file l.above) l.property-iterator
      ≡ l.initial.elements.items ++ map (property_in_tree l.file l.above) (node_of l.node).own.properties;
  regions : AllByRecursion (HasPropertyBytes l.file) l.property-iterator;
}
