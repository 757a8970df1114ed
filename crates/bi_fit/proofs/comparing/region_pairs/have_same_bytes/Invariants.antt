use Rattle.std.proofs.Common.{◌↔◌, drop}
use Rattle.std.specs.List.{AllByRecursion}
use Rattle.bi_fit.specs.RegionPairs.{AreInFiles, HasSameBytes}
use Rattle.bi_fit.proofs.comparing.region_pairs.have_same_bytes.Given as goal

-- The regions of the last pair are the same. Those of all pairs are if and only if those of the pairs that are left are.
abbrev pub invariant-loop-pair : goal.invariant-loop-pair
invariant-loop-pair l =
    AreInFiles l.file l.other l.compared
    × HasSameBytes l.file l.other l.compared
    × AllByRecursion (AreInFiles l.file l.other) (drop l.pair-index l.pairs)
    × (AllByRecursion (HasSameBytes l.file l.other) l.pairs ↔ AllByRecursion (HasSameBytes l.file l.other) (drop l.pair-index l.pairs))
