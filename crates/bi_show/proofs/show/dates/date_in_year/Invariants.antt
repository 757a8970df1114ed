use Rattle.std.proofs.Common.{◌≡◌, ◌+◌, take}
use Rattle.std.specs.List.{sum}
use Rattle.bi_show.specs.Dates.{month_lengths}
use Rattle.bi_show.proofs.show.dates.date_in_year.Given as goal

-- The days of the months before this one were subtracted.
abbrev pub invariant-loop-length : goal.invariant-loop-length
invariant-loop-length l = record {
  are_lengths : l.length-items ≡ month_lengths l.year;
  is_month : l.month ≡ l.length-index + 1;
  taken : sum (take l.length-index l.length-items) + l.left ≡ l.days;
}
