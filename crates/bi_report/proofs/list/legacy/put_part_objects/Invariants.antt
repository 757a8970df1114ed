use Rattle.std.proofs.Common.{map}
use Rattle.bi_legacy.specs.PlacedParts.{placed_parts}
use Rattle.bi_common.specs.JsonTokens.{value_tokens}
use Rattle.bi_report.specs.Listing.{part_object}
use Rattle.bi_report.proofs.PutInTurn.{IsPutBefore}
use Rattle.bi_report.proofs.list.legacy.put_part_objects.Given as goal

-- The parts that are left follow those whose objects were put.
abbrev pub invariant-loop-part : goal.invariant-loop-part
invariant-loop-part g l =
    IsPutBefore g.J.JsonPen.puts l.initial.json l.json (value_tokens (map part_object l.part-iterator))
    (value_tokens (map part_object (placed_parts l.image.image)))
