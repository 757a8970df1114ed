use Rattle.std.proofs.Common.{flat_map}
use Rattle.bi_report.specs.ConcernValues.{used_left}
use Rattle.bi_common.specs.LineTokens.{one_field}
use Rattle.bi_report.specs.MadeDetails.{algorithm_words}
use Rattle.bi_report.proofs.LaterPuts.{PutsLater}
use Rattle.bi_report.proofs.details.put_algorithms.Given as goal

-- Once the algorithms of the hash nodes that are left are put, all are.
abbrev pub invariant-loop-hash : goal.invariant-loop-hash
invariant-loop-hash g l =
    PutsLater g.L.LinePen.puts l.initial.pen l.pen (flat_map one_field (algorithm_words (used_left l.hash-iterator)))
    (flat_map one_field (algorithm_words (used_left l.fn.hashes)))
