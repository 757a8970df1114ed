use Rattle.std.proofs.Common.{◌≡◌, ◌+◌, length, flat_map, drop}
use Rattle.bi_base.specs.Slices.{bytes_of}
use Rattle.bi_fit.specs.LongNames.{name_if_long}
use Rattle.bi_describe.proofs.describe.inside.blobs.count_names.Given as goal

-- There is as much less room as the long ones of the names before this one are long.
abbrev pub invariant-loop-name : goal.invariant-loop-name
invariant-loop-name l =
    l.room + length (flat_map name_if_long (bytes_of l.names))
    ≡ l.initial.room + length (flat_map name_if_long (bytes_of (drop l.name-index l.names)))
