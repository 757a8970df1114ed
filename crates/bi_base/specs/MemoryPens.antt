use Rattle.std.specs.Prelude.{⊤, ℕ, List, Option, Some, None}
use Rattle.bi_base.specs.Sinks.{AppendsNothing, AppendsInTurn}
use Rattle.bi_base.specs.VecSinks.{Grows, grows_nothing, grows_in_turn}

-- A pen that keeps the text in memory, as contracts see it: the text, or `None` if memory has run
-- out.

-- The text grows by these bytes, or memory runs out. After that there is no text.
abbrev pub MemoryPuts : Option (List ℕ) → List ℕ → Option (List ℕ) → Type 0
MemoryPuts old bytes None = ⊤
MemoryPuts (Some old) bytes (Some new) = Grows old bytes new
MemoryPuts None bytes (Some new) = ⊥

pub memory_puts_nothing : AppendsNothing MemoryPuts
memory_puts_nothing None = tt
memory_puts_nothing (Some text) = grows_nothing text

pub memory_puts_in_turn : AppendsInTurn MemoryPuts
memory_puts_in_turn a b None xs ys first second = tt
memory_puts_in_turn (Some a) (Some b) (Some c) xs ys first second =
    grows_in_turn a b c xs ys first second
memory_puts_in_turn None (Some b) (Some c) xs ys first second = absurd first
memory_puts_in_turn a None (Some c) xs ys first second = absurd second
