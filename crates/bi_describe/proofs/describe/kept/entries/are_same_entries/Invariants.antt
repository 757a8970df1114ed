use Rattle.std.proofs.Common.{◌≡◌, map, take}
use Rattle.bi_describe.specs.TreeEntries.{as_entry}
use Rattle.bi_describe.proofs.describe.kept.entries.are_same_entries.Given as goal

abbrev pub invariant-loop-index : goal.invariant-loop-index
invariant-loop-index l = map as_entry (take l.index l.one) ≡ map as_entry (take l.index l.other)
