use Rattle.std.proofs.Common.{◌≡◌, map, take}
use Rattle.bi_describe.specs.KeptImages.{numbered_part}
use Rattle.bi_describe.proofs.describe.kept.legacy.are_same_parts.Given as goal

abbrev pub invariant-loop-index : goal.invariant-loop-index
invariant-loop-index l = map numbered_part (take l.index l.one) ≡ map numbered_part (take l.index l.other)
