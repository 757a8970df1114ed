use Rattle.std.proofs.Common.{map, drop}
use Rattle.std.specs.FinMap.{entries}
use Rattle.bi_blob.specs.Events.{NodeProperty}
use Rattle.bi_fit.specs.NormalNodes.{with_events}
use Rattle.bi_fit.proofs.AddedProperties.{IsAddingEntries}
use Rattle.bi_fit.proofs.document.property_map.PropertyMap.add_to.Given as goal

abbrev pub invariant-loop-entry : goal.invariant-loop-entry
invariant-loop-entry l =
    IsAddingEntries l.doc (with_events l.initial.doc (map NodeProperty (entries l.self.by_name))) (drop l.entry-index l.entry-items)
