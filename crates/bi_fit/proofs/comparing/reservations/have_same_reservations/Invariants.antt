use Rattle.std.proofs.Common.{◌≡◌, take}
use Rattle.bi_fit.proofs.comparing.reservations.have_same_reservations.Given as goal

abbrev pub invariant-loop-index : goal.invariant-loop-index
invariant-loop-index l = take l.index l.own.reservations ≡ take l.index l.other.reservations
