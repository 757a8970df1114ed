use Rattle.std.specs.Prelude.{◌≡◌, ℕ, List, ◌++◌}
use Rattle.std.proofs.Common.{sym, ap, ◌∙◌}
use Rattle.std.proofs.lemmas.List.{append-nil, append_assoc}
use Rattle.bi_base.specs.declared.fault.Error.{Error}
use Rattle.bi_base.specs.declared.fault.Error.TheVariants.{OutOfMemory}
use Rattle.bi_base.specs.Sinks.{AppendsNothing, AppendsInTurn}

-- A sink that keeps the bytes in memory, as contracts see it: the list of all bytes that were
-- appended.

-- The list grows by these bytes.
abbrev pub Grows : List ℕ → List ℕ → List ℕ → Type 0
Grows old bytes new = new ≡ old ++ bytes

-- The only error of such a sink.
abbrev pub IsOutOfMemory : List ℕ → Error → Type 0
IsOutOfMemory new error = error ≡ OutOfMemory

-- Growing by nothing changes nothing.
pub grows_nothing : AppendsNothing Grows
grows_nothing a = sym (append-nil a)

-- Growing by two lists in turn is growing by both together.
pub grows_in_turn : AppendsInTurn Grows
grows_in_turn a b c xs ys first second = second ∙ ap (λ l. l ++ ys) first ∙ append_assoc a xs ys
