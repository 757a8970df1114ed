use Rattle.std.proofs.Common.{◌≡◌, ◌++◌, map, length}
use Rattle.std.specs.Iterator.Adapters.{zip_first, zip_second}
use Rattle.std.specs.Slice.Iter.{iter_rest}
use Rattle.bi_base.specs.Slices.{bytes_of}
use Rattle.bi_norm.specs.declared.fit_building.ImageSpec.{ImageSpec}
use Rattle.bi_commands.specs.BuildCommands.{image_fields}
use Rattle.bi_commands.proofs.build_fit.with_payloads.Given as goal

-- As many images as payloads are left, and with those that are complete they are all.
abbrev pub invariant-loop-image : goal.invariant-loop-image
invariant-loop-image l =
    let images = iter_rest (zip_first l.image-iterator) in
    let payloads = iter_rest (zip_second l.image-iterator) in
    (length payloads ≡ length images)
    × (map image_fields l.complete.items ++ map image_fields images ≡ map image_fields l.images)
    × (map (λ (image : ImageSpec). image.payload.now) l.complete.items ++ bytes_of payloads ≡ bytes_of l.payloads)
