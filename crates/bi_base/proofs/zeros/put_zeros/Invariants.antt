use Rattle.std.proofs.Common.{◌*◌, replicate}
use Rattle.bi_base.proofs.zeros.put_zeros.Given as goal

-- The zeros of the chunks before this one were appended.
abbrev pub invariant-loop : goal.invariant-loop
invariant-loop g l = g.S.Sink.appends l.initial.sink (replicate (64 * l.counter) 0) l.sink
