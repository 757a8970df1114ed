use Rattle.std.proofs.Common.{◌≡◌, length}
use Rattle.bi_fit.specs.Judgement.{listed_names}
use Rattle.bi_coverage.specs.Paths.{each_once, with_all_new}
use Rattle.bi_coverage.proofs.listed_paths.listed_paths.Given as goal

abbrev pub invariant-loop-path : goal.invariant-loop-path
invariant-loop-path l = with_all_new l.paths (listed_names l.rest) ≡ each_once (listed_names l.value)

abbrev pub decreases-loop-path : goal.decreases-loop-path
decreases-loop-path l = length l.rest
