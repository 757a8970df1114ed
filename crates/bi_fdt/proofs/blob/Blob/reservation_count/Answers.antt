use Rattle.std.proofs.Common.{rules}
use Rattle.bi_blob.proofs.Blobs.ReservationFaults.{length-reservations_at}
use Rattle.bi_fdt.proofs.blob.Blob.reservation_count.Goals as goal

pub returns : goal.returns
returns c = search (rules, length-reservations_at)
