use Rattle.std.proofs.Common.{◌≡◌}
use Rattle.bi_blob.specs.Lookups.{property_named}
use Rattle.bi_fdt.specs.Views.{node_of}
use Rattle.bi_fdt.proofs.node.NodeRef.find_property.Given as goal

abbrev pub invariant-loop-property : goal.invariant-loop-property
invariant-loop-property l = property_named l.property-iterator l.name ≡ property_named (node_of l.self).own.properties l.name
