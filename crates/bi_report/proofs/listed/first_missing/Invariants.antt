use Rattle.std.proofs.Common.{◌≡◌, ◌≤◌, ◌+◌, length}
use Rattle.bi_fit.specs.Judgement.{listed_names}
use Rattle.bi_report.specs.Listed.{first_missing}
use Rattle.bi_report.proofs.listed.first_missing.Given as goal

-- No name before the remaining ones is missing.
abbrev pub invariant-loop-name : goal.invariant-loop-name
invariant-loop-name l =
    (first_missing l.fit.images 0 (listed_names l.value) ≡ first_missing l.fit.images l.index (listed_names l.rest))
    × (l.index + length l.rest ≤ length l.value)

abbrev pub decreases-loop-name : goal.decreases-loop-name
decreases-loop-name l = length l.rest
