use Rattle.std.proofs.Common.{◌≡◌, ◌∙◌, ◌+◌, ◌<◌, ◌≤◌, ℕ, Bool, true, false, List, [], ◌∷◌, ◌++◌}
use Rattle.std.proofs.Common.{append-nil, append_assoc, ap, drop, get_or, length, subst, sym, take}
use Rattle.std.proofs.lemmas.List.{take-append-drop, take_all, take_more}
use Rattle.bi_labels.specs.InTurn.{AllDone, AreDoneInTurn, LastDone, NextDone}

-- Images that were done in turn, by one more in each round of a loop.

-- The images so far were done, and none was the last: if the others are done in turn, so are all.
abbrev pub AreDoneSoFar : {X Y S : Type 0} → (X → Y → S → S → Type 0) → (Y → Bool) → List X → List Y → S → S → Type 0
AreDoneSoFar {X} {Y} {S} IsDone is_last images outcomes old middle =
    (others : List X) (later : List Y) (new : S) → AreDoneInTurn IsDone is_last others later middle new
    → AreDoneInTurn IsDone is_last (images ++ others) (outcomes ++ later) old new

pub none_done : {X Y S : Type 0} (IsDone : X → Y → S → S → Type 0) (is_last : Y → Bool) (state : S)
    → AreDoneSoFar IsDone is_last [] [] state state
none_done IsDone is_last state others later new done = done

-- One more.
pub one_more_done : {X Y S : Type 0} (IsDone : X → Y → S → S → Type 0) (is_last : Y → Bool) (images : List X) (i : ℕ) (d : X)
    (outcomes : List Y) (outcome : Y) (old middle new : S) → i < length images
    → AreDoneSoFar IsDone is_last (take i images) outcomes old middle → IsDone (get_or images i d) outcome middle new
    → is_last outcome ≡ false → AreDoneSoFar IsDone is_last (take (i + 1) images) (outcomes ++ outcome ∷ []) old new
one_more_done IsDone is_last images i d outcomes outcome old middle new within so_far done more others later last rest =
    rw (
      take_more images i d within,
      append_assoc (take i images) (get_or images i d ∷ []) others,
      append_assoc outcomes (outcome ∷ [])
          later,
    )
    (so_far (get_or images i d ∷ others) (outcome ∷ later) last
    (NextDone (get_or images i d) others outcome later middle new last done more rest))

-- The last one.
pub last_done : {X Y S : Type 0} (IsDone : X → Y → S → S → Type 0) (is_last : Y → Bool) (images : List X) (i : ℕ) (d : X)
    (outcomes : List Y) (outcome : Y) (old middle new : S) → i < length images
    → AreDoneSoFar IsDone is_last (take i images) outcomes old middle → IsDone (get_or images i d) outcome middle new
    → is_last outcome ≡ true → AreDoneInTurn IsDone is_last images (outcomes ++ outcome ∷ []) old new
last_done IsDone is_last images i d outcomes outcome old middle new within so_far done last =
    let split : images ≡ take i images ++ get_or images i d ∷ drop (i + 1) images =
    sym (take-append-drop (i + 1) images) ∙ ap (λ (first : List _). first ++ drop (i + 1) images) (take_more images i d within)
    ∙ append_assoc (take i images) (get_or images i d ∷ []) (drop (i + 1) images) in
    subst (λ all. AreDoneInTurn IsDone is_last all (outcomes ++ outcome ∷ []) old new) (sym split)
    (so_far (get_or images i d ∷ drop (i + 1) images) (outcome ∷ []) new
    (LastDone (get_or images i d) (drop (i + 1) images) outcome middle new done last))

-- All of them.
pub all_done : {X Y S : Type 0} (IsDone : X → Y → S → S → Type 0) (is_last : Y → Bool) (images : List X) (i : ℕ) (outcomes : List Y)
    (old new : S) → length images ≤ i → AreDoneSoFar IsDone is_last (take i images) outcomes old new
    → AreDoneInTurn IsDone is_last images outcomes old new
all_done IsDone is_last images i outcomes old new past so_far =
    subst (λ all. AreDoneInTurn IsDone is_last images all old new) (append-nil outcomes)
    (subst (λ all. AreDoneInTurn IsDone is_last all (outcomes ++ []) old new) (append-nil (take i images) ∙ take_all i images past)
    (so_far [] [] new (AllDone new)))
