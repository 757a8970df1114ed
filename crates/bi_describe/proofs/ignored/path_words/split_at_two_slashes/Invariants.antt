use Rattle.std.proofs.Common.{◌≡◌, ◌≤◌, ◌+◌, ◌-◌, false, length, take}
use Rattle.bi_describe.specs.WordParts.{has_two_slashes}
use Rattle.bi_describe.proofs.ignored.path_words.split_at_two_slashes.Given as goal

-- There are no two slashes one after the other up to here.
abbrev pub invariant-loop-end : goal.invariant-loop-end
invariant-loop-end l = (l.end ≤ length l.text) × (has_two_slashes (take (l.end + 1) l.text) ≡ false)

abbrev pub decreases-loop-end : goal.decreases-loop-end
decreases-loop-end l = length l.text - l.end
