use Rattle.std.proofs.Common.{length, map, drop}
use Rattle.bi_c.specs.FitElements.{element_of_reservation}
use Rattle.bi_c.proofs.ArrayFilling.{IsFilling}
use Rattle.bi_c.proofs.fit.fill_reservations.Given as goal

-- The elements of the reservations from the index on are not yet written.
abbrev pub invariant-loop-address : goal.invariant-loop-address
invariant-loop-address l =
    IsFilling (map element_of_reservation l.blob.reservations) (map element_of_reservation (drop l.index l.blob.reservations)) l.index
    l.initial.elements l.elements

abbrev pub decreases-loop-address : goal.decreases-loop-address
decreases-loop-address l = length (map element_of_reservation (drop l.index l.blob.reservations))
