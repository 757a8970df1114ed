use Rattle.std.proofs.Common.{length, map}
use Rattle.bi_common.specs.HashedImages.{found_left}
use Rattle.bi_common.specs.JsonTokens.{value_tokens}
use Rattle.bi_report.proofs.PutInTurn.{IsPutBefore}
use Rattle.bi_show.specs.ShownObjects.{shown_hash_object}
use Rattle.bi_show.proofs.show.json.images.put_hash_objects.Given as goal

-- The hash nodes that are left follow those that were put.
abbrev pub invariant-loop-node : goal.invariant-loop-node
invariant-loop-node g l =
    IsPutBefore g.J.JsonPen.puts l.initial.json l.json (value_tokens (map shown_hash_object (found_left l.rest)))
    (value_tokens (map shown_hash_object (found_left l.hashes)))

abbrev pub decreases-loop-node : goal.decreases-loop-node
decreases-loop-node g l = length (found_left l.rest)
