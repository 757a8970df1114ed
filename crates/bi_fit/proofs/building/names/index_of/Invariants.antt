use Rattle.std.proofs.Common.{◌≡◌, true, drop}
use Rattle.bi_base.specs.Slices.{bytes_of}
use Rattle.bi_blob.specs.Layout.{is_among}
use Rattle.bi_fit.proofs.building.names.index_of.Given as goal

-- The name is one of those that are left.
abbrev pub invariant-loop-index : goal.invariant-loop-index
invariant-loop-index l = is_among l.name (bytes_of (drop l.index l.names)) ≡ true
