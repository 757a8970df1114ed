use Rattle.std.specs.Prelude.{Bool, List, [], ◌∷◌, IsFalse, IsTrue}

-- What is done with several images, one after another (profile of this project).

-- These images were done in turn, with these outcomes, from the first state to the last: all of
-- them, or none after an outcome that is the last. `IsDone` relates an image, its outcome, and the
-- states before it and after it.
pub data AreDoneInTurn {X Y S : Type 0} (IsDone : X → Y → S → S → Type 0) (is_last : Y → Bool)
    : (images : List X) → (outcomes : List Y) → (old new : S) → Type 0
  where
    AllDone : (state : S) → AreDoneInTurn IsDone is_last [] [] state state
    NextDone : (image : X) (images : List X) (outcome : Y) (outcomes : List Y) (old middle new : S)
        → IsDone image outcome old middle → IsFalse (is_last outcome)
        → AreDoneInTurn IsDone is_last images outcomes middle new
        → AreDoneInTurn IsDone is_last (image ∷ images) (outcome ∷ outcomes) old new
    LastDone : (image : X) (images : List X) (outcome : Y) (old new : S)
        → IsDone image outcome old new → IsTrue (is_last outcome)
        → AreDoneInTurn IsDone is_last (image ∷ images) (outcome ∷ []) old new
