use Rattle.std.proofs.Common.{◌≡◌, take}
use Rattle.bi_describe.proofs.describe.kept.tree.have_same_reservations.Given as goal

abbrev pub invariant-loop-index : goal.invariant-loop-index
invariant-loop-index l = take l.index l.one.reservations ≡ take l.index l.other.reservations
