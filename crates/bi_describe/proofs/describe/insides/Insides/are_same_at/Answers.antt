use Rattle.std.proofs.Common.{◌≡◌, refl, subst, sym, take_all, true≢false, ◌∙◌}
use Rattle.std.specs.Borrow.{Bor}
use Rattle.std.specs.List.{AllByRecursion}
use Rattle.bi_describe.specs.declared.ignored.PayloadPlace.{PayloadPlace as MadePlace}
use Rattle.bi_describe.specs.MadeWords.{place_of_payload}
use Rattle.bi_describe.proofs.HeldInsides.{each_more, each_place, is_one}
use Rattle.bi_describe.proofs.describe.insides.Insides.are_same_at.Goals as goal

pub loop-place-preserved : goal.loop-place-preserved
loop-place-preserved c = λ trees others held also.
    let same = (c.is_same_at.ensures trees others held also).0 c.if-not-is_same_at.false in
    each_more (λ (place : Bor MadePlace). trees (place_of_payload place.now) ≡ others (place_of_payload place.now))
    c.args.opened.now c.loop-place.place-index c.place-item.result c.place-item.is c.loop-place-test.true
    (c.loop-place.invariant trees others held also) same

pub returns-then-not-is_same_at : goal.returns-then-not-is_same_at
returns-then-not-is_same_at c trees others held also =
    let own = c.is_same_at.ensures trees others held also in
    let one = is_one c.args.opened.now c.loop-place.place-index c.place-item.result c.place-item.is c.loop-place-test.true in (
      (λ yes. absurd (true≢false (sym yes))),
      (λ all. sym c.if-not-is_same_at.true ∙ own.1 (all (place_of_payload c.place-item.result.now) one)),
    )

pub returns : goal.returns
returns c trees others held also = (
  (λ yes place is. each_place (λ place. trees place ≡ others place) c.args.opened.now
      (subst (AllByRecursion (λ (place : Bor MadePlace). trees (place_of_payload place.now) ≡ others (place_of_payload place.now)))
      (take_all c.loop-place.place-index c.args.opened.now c.loop-place-test.false)
      (c.loop-place.invariant trees others held also)) place is),
  (λ all. refl),
)
