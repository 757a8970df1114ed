use Rattle.std.proofs.Common.{map}
use Rattle.bi_common.specs.HashedImages.{hashes_left}
use Rattle.bi_common.specs.JsonTokens.{value_tokens}
use Rattle.bi_report.specs.Reports.{hash_object}
use Rattle.bi_report.proofs.LaterPuts.{PutsLater}
use Rattle.bi_report.proofs.verify.texts.put_hash_objects.Given as goal

-- Once the objects of the hash nodes that are left are put, all are.
abbrev pub invariant-loop-hash : goal.invariant-loop-hash
invariant-loop-hash g l =
    PutsLater g.J.JsonPen.puts l.initial.json l.json (value_tokens (map hash_object (hashes_left l.hash-iterator)))
    (value_tokens (map hash_object (hashes_left l.fn.hashes)))
