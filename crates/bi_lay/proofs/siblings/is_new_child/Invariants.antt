use Rattle.std.proofs.Common.{◌≤◌, take}
use Rattle.bi_blob.specs.Following.{stage_of_events}
use Rattle.bi_lay.specs.Items.{events_of_items}
use Rattle.bi_lay.specs.Siblings.{IsScan}
use Rattle.bi_lay.proofs.siblings.is_new_child.Given as goal

-- The scan is at the stage after the items before this one.
abbrev pub invariant-loop-item : goal.invariant-loop-item
invariant-loop-item l = record {
  few : l.scan.depth ≤ l.item-index;
  is_scan : IsScan l.name l.depth l.scan (stage_of_events (events_of_items (take l.item-index l.items)));
}
