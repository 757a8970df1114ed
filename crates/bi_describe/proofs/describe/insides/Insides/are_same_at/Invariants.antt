use Rattle.std.proofs.Common.{◌≡◌, take}
use Rattle.std.specs.Borrow.{Bor}
use Rattle.std.specs.List.{AllByRecursion}
use Rattle.bi_describe.specs.declared.ignored.PayloadPlace.{PayloadPlace as MadePlace}
use Rattle.bi_describe.specs.MadeInsides.{HoldInsides}
use Rattle.bi_describe.specs.MadeWords.{place_of_payload}
use Rattle.bi_describe.proofs.describe.insides.Insides.are_same_at.Given as goal

-- The trees at the places before this one are the same.
abbrev pub invariant-loop-place : goal.invariant-loop-place
invariant-loop-place l =
    (trees others : _) → HoldInsides trees l.self → HoldInsides others l.other →
    AllByRecursion (λ (place : Bor MadePlace). trees (place_of_payload place.now) ≡ others (place_of_payload place.now))
    (take l.place-index l.opened)
