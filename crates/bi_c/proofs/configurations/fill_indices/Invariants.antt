use Rattle.std.proofs.Common.{map, drop}
use Rattle.bi_fit.specs.JudgementCalls.{listed_image}
use Rattle.bi_c.specs.FitElements.{index_among}
use Rattle.bi_c.proofs.ArrayFilling.{IsFilling}
use Rattle.bi_c.proofs.configurations.fill_indices.Given as goal

-- The indices of the images from the index on are not yet written.
abbrev pub invariant-loop-index : goal.invariant-loop-index
invariant-loop-index l =
    IsFilling (map (index_among l.fit) (map listed_image l.listed)) (map (index_among l.fit) (map listed_image (drop l.index l.listed)))
    l.index l.initial.indices l.indices
