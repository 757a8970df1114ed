use Rattle.std.proofs.Common.{length}
use Rattle.bootimg.proofs.LastSaid.{IsLastBefore}
use Rattle.bootimg.proofs.command_line.explain.last_said.Given as goal

abbrev pub invariant-loop-rest : goal.invariant-loop-rest
invariant-loop-rest l = IsLastBefore l.initial.text l.said l.rest

abbrev pub decreases-loop-rest : goal.decreases-loop-rest
decreases-loop-rest l = length l.rest
