use Rattle.std.specs.Prelude.{◌≡◌, ℕ, ◌+◌, ◌-◌, ◌^◌, ◌<◌, List, length, min}
use Rattle.std.proofs.Common.{arith, length-append}
use Rattle.bi_base.specs.Sinks.{AppendsNothing, AppendsInTurn}

-- A count of bytes as a sink, which keeps none of them (profile of this project).

-- Counting these bytes leads from one count to the other. It stops at the greatest number of 64
-- bits.
abbrev pub Counts : ℕ → List ℕ → ℕ → Type 0
Counts old bytes new = old < 2 ^ 64 → new ≡ min (old + length bytes) (2 ^ 64 - 1)

-- Counting no bytes changes nothing.
pub counts_nothing : AppendsNothing Counts
counts_nothing count small = omega arith

-- Counting two lists in turn is counting both together.
pub counts_in_turn : AppendsInTurn Counts
counts_in_turn old mid new first second counts_first counts_second small =
    let one = counts_first small in
    let two = counts_second (omega arith) in
    omega (arith, length-append first second)
