use Rattle.std.proofs.Common.{◌≡◌}
use Rattle.bootimg.proofs.edits.edits_for.Given as goal

-- The edits so far are there.
abbrev pub invariant-loop-edit : goal.invariant-loop-edit
invariant-loop-edit l = l.all.items ≡ l.yielded
