use Rattle.std.proofs.Common.{◌≡◌, take}
use Rattle.bi_show.specs.FitPages.{reservations_table}
use Rattle.bi_show.specs.Rows.{cells_of_rows}
use Rattle.bi_show.proofs.show.fit.reservation_rows.Given as goal

-- The rows of the reservations before this one are there.
abbrev pub invariant-loop-index : goal.invariant-loop-index
invariant-loop-index l = cells_of_rows l.rows.items ≡ reservations_table (take l.index l.blob.reservations)
