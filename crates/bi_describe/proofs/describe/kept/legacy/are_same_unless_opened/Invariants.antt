use Rattle.std.proofs.Common.{◌≡◌, map, take}
use Rattle.bi_describe.specs.MadeInsides.{kept_part_unless}
use Rattle.bi_describe.proofs.describe.kept.legacy.are_same_unless_opened.Given as goal

abbrev pub invariant-loop-index : goal.invariant-loop-index
invariant-loop-index l =
    map (kept_part_unless l.opened) (take l.index l.one) ≡ map (kept_part_unless l.opened) (take l.index l.other)
