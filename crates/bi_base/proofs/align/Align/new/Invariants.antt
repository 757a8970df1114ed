use Rattle.std.proofs.Common.{◌≢◌, ℕ, ◌^◌, ◌<◌, ◌≤◌}
use Rattle.bi_base.proofs.align.Align.new.Given as goal

-- It is none of the powers with the exponents before.
abbrev pub invariant-loop-exponent : goal.invariant-loop-exponent
invariant-loop-exponent l = (k : ℕ) → 2 ≤ k → k < l.exponent → l.bytes ≢ 2 ^ k
