use Rattle.std.proofs.Common.{◌≡◌, ◌++◌, drop}
use Rattle.bi_fit.specs.NormalNodes.{payloads_of}
use Rattle.bi_fit.specs.Text.{payloads_end}
use Rattle.bi_edit.specs.OldImages.{still_placed_from}
use Rattle.bi_edit.specs.PlacedPayloads.{placed_list}
use Rattle.bi_edit.proofs.edit_notes.still_placed.Given as goal

abbrev pub invariant-loop-image : goal.invariant-loop-image
invariant-loop-image l = record {
  ends : payloads_end 4 l.end (payloads_of (drop l.image-index l.images)) ≡ payloads_end 4 0 (payloads_of l.images);
  placed : placed_list l.all.items ++ still_placed_from l.old.images l.base l.end (drop l.image-index l.images)
      ≡ still_placed_from l.old.images l.base 0 l.images;
}
