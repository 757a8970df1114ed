use Rattle.std.proofs.Common.{◌≡◌, ◌++◌, drop, map}
use Rattle.bi_fit.specs.Content.{image_model}
use Rattle.bi_show.specs.ReadPages.{read_payload_regions}
use Rattle.bi_show.proofs.show.layout.fit.add_payloads.Given as goal

-- The regions of the images before this one are there, and those of the others follow.
abbrev pub invariant-loop-index : goal.invariant-loop-index
invariant-loop-index l =
    l.regions.items ++ read_payload_regions l.index (map image_model (drop l.index l.images))
    ≡ l.initial.regions.items ++ read_payload_regions 0 (map image_model l.images)
