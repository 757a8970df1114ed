use Rattle.std.specs.Prelude.{◌≡◌, ℕ, ◌+◌, ◌<◌, ⊤, List, Option, None, Some, length}
use Rattle.std.proofs.Common.{arith, length-append}
use Rattle.bi_base.specs.Sinks.{AppendsInTurn, AppendsNothing}
use Rattle.bi_describe.specs.declared.describe.bounded_pen.BoundedPen.{BoundedPen}

-- A pen that has room for as many bytes as its limit, and keeps none of them (profile of this
-- project).

-- There is as much less room after so many bytes, or none if they are more.
abbrev pub TakesRoom : (old : Option ℕ) → (count : ℕ) → (new : Option ℕ) → Type 0
TakesRoom None count None = ⊤
TakesRoom None count (Some new) = ⊥
TakesRoom (Some old) count None = old < count
TakesRoom (Some old) count (Some new) = count + new ≡ old

abbrev pub BoundedPuts : BoundedPen → List ℕ → BoundedPen → Type 0
BoundedPuts old text new = TakesRoom old.room (length text) new.room

takes_nothing : (room : Option ℕ) → TakesRoom room 0 room
takes_nothing None = tt
takes_nothing (Some room) = omega arith

takes_both : (a b c : Option ℕ) (m n : ℕ) → TakesRoom a m b → TakesRoom b n c
    → TakesRoom a (m + n) c
takes_both None None None m n first second = tt
takes_both None None (Some c) m n first second = second
takes_both None (Some b) c m n first second = absurd first
takes_both (Some a) None None m n first second = omega arith
takes_both (Some a) None (Some c) m n first second = absurd second
takes_both (Some a) (Some b) None m n first second = omega arith
takes_both (Some a) (Some b) (Some c) m n first second = omega arith

pub bounded_puts_nothing : AppendsNothing BoundedPuts
bounded_puts_nothing pen = takes_nothing pen.room

pub bounded_puts_in_turn : AppendsInTurn BoundedPuts
bounded_puts_in_turn a b c xs ys first second =
    simp length-append (takes_both a.room b.room c.room (length xs) (length ys) first second)
