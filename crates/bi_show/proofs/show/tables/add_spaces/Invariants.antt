use Rattle.std.proofs.Common.{◌≡◌, ◌++◌, replicate, string_bytes}
use Rattle.bi_show.proofs.show.tables.add_spaces.Given as goal

-- This many spaces were appended.
abbrev pub invariant-loop : goal.invariant-loop
invariant-loop l = string_bytes l.page ≡ string_bytes l.initial.page ++ replicate l.counter 32
