use Rattle.std.proofs.Common.{◌≡◌, drop}
use Rattle.std.specs.List.{AllByRecursion}
use Rattle.bi_blob.specs.Blob.{IsReservation}
use Rattle.bi_fit.specs.NormalNodes.{with_reservations}
use Rattle.bi_plain.proofs.writer.add_reservations.Given as goal

abbrev pub invariant-loop-index : goal.invariant-loop-index
invariant-loop-index l = record {
  added : with_reservations l.doc (drop l.index l.blob.reservations) ≡ with_reservations l.fn.doc l.blob.reservations;
  valid : AllByRecursion IsReservation (drop l.index l.blob.reservations);
}
