use Rattle.bi_report.specs.ConcernValues.{used_left}
use Rattle.bi_common.specs.JsonTokens.{value_tokens}
use Rattle.bi_report.specs.MadeDetails.{algorithm_strings}
use Rattle.bi_report.proofs.LaterPuts.{PutsLater}
use Rattle.bi_report.proofs.details.put_algorithm_strings.Given as goal

-- Once the algorithms of the hash nodes that are left are put, all are.
abbrev pub invariant-loop-hash : goal.invariant-loop-hash
invariant-loop-hash g l =
    PutsLater g.J.JsonPen.puts l.initial.json l.json (value_tokens (algorithm_strings (used_left l.hash-iterator)))
    (value_tokens (algorithm_strings (used_left l.fn.hashes)))
