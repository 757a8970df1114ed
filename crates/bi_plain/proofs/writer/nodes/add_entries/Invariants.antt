use Rattle.std.proofs.Common.{map, drop}
use Rattle.bi_blob.specs.Events.{NodeProperty}
use Rattle.bi_fit.specs.NormalNodes.{with_events}
use Rattle.bi_plain.specs.Ranked.{named_entries}
use Rattle.bi_plain.proofs.AddedEntries.{IsWritingEntries}
use Rattle.bi_plain.proofs.writer.nodes.add_entries.Given as goal

abbrev pub invariant-loop-rank : goal.invariant-loop-rank
invariant-loop-rank l =
    IsWritingEntries l.doc (with_events l.fn.doc (map NodeProperty (named_entries l.fn.doc.names l.entries))) (drop l.rank-index l.entries)
