use Rattle.std.proofs.Common.{map}
use Rattle.bi_common.specs.HashedImages.{hashes_left}
use Rattle.bi_common.specs.LineTokens.{tokens_of_lines}
use Rattle.bi_report.specs.Reports.{hash_line}
use Rattle.bi_report.proofs.LaterPuts.{PutsLater}
use Rattle.bi_report.proofs.verify.texts.put_hash_lines.Given as goal

-- Once the lines of the hash nodes that are left are put, all are.
abbrev pub invariant-loop-hash : goal.invariant-loop-hash
invariant-loop-hash g l =
    PutsLater g.L.LinePen.puts l.initial.pen l.pen (tokens_of_lines (map hash_line (hashes_left l.hash-iterator)))
    (tokens_of_lines (map hash_line (hashes_left l.fn.hashes)))
