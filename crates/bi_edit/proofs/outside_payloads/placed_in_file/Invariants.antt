use Rattle.std.proofs.Common.{◌≡◌, ◌++◌, drop}
use Rattle.bi_edit.specs.PlacedPayloads.{placed_list, placed_of_images}
use Rattle.bi_edit.proofs.outside_payloads.placed_in_file.Given as goal

abbrev pub invariant-loop-image : goal.invariant-loop-image
invariant-loop-image l =
    placed_list l.all.items ++ placed_of_images (drop l.image-index l.images) ≡ placed_of_images l.images
