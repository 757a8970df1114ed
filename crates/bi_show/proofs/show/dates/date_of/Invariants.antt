use Rattle.std.proofs.Common.{◌≡◌, ◌+◌, ◌/◌, ◌≤◌, ℕ}
use Rattle.bi_show.specs.Dates.{days_of_years}
use Rattle.bi_show.proofs.show.dates.date_of.Given as goal

-- The days of the years before this one were subtracted.
abbrev pub invariant-loop-left : goal.invariant-loop-left
invariant-loop-left l =
    (years : ℕ) × (l.year ≡ 1970 + years) × (days_of_years years + l.left ≡ l.seconds / 86400)
    × (years + l.left ≤ l.seconds / 86400)

abbrev pub decreases-loop-left : goal.decreases-loop-left
decreases-loop-left l = l.left
