use Rattle.std.proofs.Common.{◌≡◌}
use Rattle.std.specs.List.{list_any}
use Rattle.bi_report.specs.ConcernValues.{used_left}
use Rattle.bi_report.specs.Checking.{is_good}
use Rattle.bi_report.proofs.check.images.has_good.Given as goal

-- The hash nodes that are left decide.
abbrev pub invariant-loop-hash : goal.invariant-loop-hash
invariant-loop-hash l = list_any is_good (used_left l.hash-iterator) ≡ list_any is_good (used_left l.fn.hashes)
