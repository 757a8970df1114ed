use Rattle.std.proofs.Common.{◌≡◌, ◌+◌, drop, map}
use Rattle.bi_tree.specs.TreeNodes.{index_named}
use Rattle.bi_tree.proofs.properties.find_property.Given as goal

abbrev pub invariant-loop-index : goal.invariant-loop-index
invariant-loop-index l =
    l.index + index_named l.name (map (λ property. property.name.now) (drop l.index l.properties))
    ≡ index_named l.name (map (λ property. property.name.now) l.properties)
