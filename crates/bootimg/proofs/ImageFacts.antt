use Rattle.std.proofs.Common.{◌≡◌, ◌∙◌, Bool, true, false, true≢false, List, [], ◌∷◌, refl, sym}
use Rattle.bi_base.specs.declared.fault.Error.TheVariants.{Refused, WriteFailed}
use Rattle.bi_labels.specs.InTurn.{AllDone, AreDoneInTurn, LastDone, NextDone}
use Rattle.bootimg.specs.declared.failure.Failure.TheVariants.{Call}
use Rattle.bootimg.specs.KnownImages.{ImageOutcomesAreKnown, NextImagesAreKnown, failed_r1}
use Rattle.bootimg.specs.KnownRuns.{bad_magic, file_r1}
use Rattle.bootimg.specs.SeveralImages.{IsImageDone, is_last}

-- Runs over several images are known.

pub image_outcomes_are_known : ImageOutcomesAreKnown
image_outcomes_are_known = record {
  file = refl;
  shown = refl;
  input = refl;
  none = refl;
  good = λ done. refl;
  not_good = λ done. refl;
  failed = λ done. refl;
  follows = λ done. refl;
  after_refusal = refl;
  after_read = refl;
  after_missing_file = refl;
  after_write = refl;
  after_memory = refl;
  held_write = refl;
  held_refusal = refl;
}

-- One image that is left has an outcome.
one_left : {X Y S : Type 0} (IsDone : X → Y → S → S → Type 0) (is_last : Y → Bool) (image : X) (later : List Y) (old new : S)
    → AreDoneInTurn IsDone is_last (image ∷ []) later old new → (outcome : Y) × (later ≡ outcome ∷ [])
one_left IsDone is_last image later old new (NextDone first others outcome outcomes from middle to done not (AllDone state)) =
    (outcome, refl)
one_left IsDone is_last image later old new (LastDone first others outcome from to done is) = (outcome, refl)

-- The second of two follows if the first is not the last, and not if it is.
second_follows : {X Y S : Type 0} (IsDone : X → Y → S → S → Type 0) (is_last : Y → Bool) (one other : X) (outcome : Y) (later : List Y)
    (old new : S) → is_last outcome ≡ false → AreDoneInTurn IsDone is_last (one ∷ other ∷ []) (outcome ∷ later) old new
    → (second : Y) × (later ≡ second ∷ [])
second_follows IsDone is_last one other outcome later old new more (NextDone first others o outcomes from middle to done not rest) =
    one_left IsDone is_last other later middle new rest
second_follows IsDone is_last one other outcome later old new more (LastDone first others o from to done is) =
    absurd (true≢false (sym is ∙ more))

none_follows : {X Y S : Type 0} (IsDone : X → Y → S → S → Type 0) (is_last : Y → Bool) (one other : X) (outcome : Y) (later : List Y)
    (old new : S) → is_last outcome ≡ true → AreDoneInTurn IsDone is_last (one ∷ other ∷ []) (outcome ∷ later) old new → later ≡ []
none_follows IsDone is_last one other outcome later old new last (NextDone first others o outcomes from middle to done not rest) =
    absurd (true≢false (sym last ∙ not))
none_follows IsDone is_last one other outcome later old new last (LastDone first others o from to done is) = refl

pub next_images_are_known : NextImagesAreKnown
next_images_are_known = record {
  after_refusal = λ files hints request other later old new are.
      second_follows (IsImageDone files hints request false) is_last file_r1 other (failed_r1 (Call
      (Refused bad_magic))) later old new refl are;
  after_write = λ files hints request other later old new are.
      none_follows (IsImageDone files hints request false) is_last file_r1 other (failed_r1 (Call WriteFailed)) later old new refl are;
}
