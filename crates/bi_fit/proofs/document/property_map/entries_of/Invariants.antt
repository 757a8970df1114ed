use Rattle.std.proofs.Common.{◌≡◌, List, ◌++◌}
use Rattle.std.specs.List.{AllZip}
use Rattle.bi_fdt.specs.Order.{KeyedProperty}
use Rattle.bi_fit.specs.PropertyMaps.{IsEntryOf}
use Rattle.bi_fit.proofs.document.property_map.entries_of.Given as goal

-- The properties before those that are left have the entries.
abbrev pub invariant-loop-rank : goal.invariant-loop-rank
invariant-loop-rank l =
    (done : List KeyedProperty) × (l.fn.properties ≡ done ++ l.rank-iterator) × AllZip IsEntryOf done l.entries.items
