use Rattle.std.proofs.Common.{map}
use Rattle.std.specs.List.{AllByRecursion}
use Rattle.bi_fdt.specs.Views.{node_of}
use Rattle.bi_c.specs.NodeElements.{element_of_property}
use Rattle.bi_c.specs.TreeRegions.{HasPropertyBytes}
use Rattle.bi_c.proofs.ArrayFilling.{IsFilling}
use Rattle.bi_c.proofs.properties.fill_properties.Given as goal

-- The elements of the properties that are left are not yet written.
abbrev pub invariant-loop-property : goal.invariant-loop-property
invariant-loop-property l = record {
  filling : IsFilling (map (element_of_property l.file) (node_of l.node).own.properties)
      (map (element_of_property l.file) l.property-iterator) l.index l.initial.elements l.elements;
  regions : AllByRecursion (HasPropertyBytes l.file) l.property-iterator;
}
