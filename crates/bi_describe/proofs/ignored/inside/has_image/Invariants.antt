use Rattle.std.proofs.Common.{◌≡◌, drop}
use Rattle.bi_describe.specs.Ignoring.{OfImageNamed}
use Rattle.bi_describe.specs.MadeInsides.{is_one_of_places}
use Rattle.bi_describe.proofs.ignored.inside.has_image.Given as goal

-- The places that are left decide.
abbrev pub invariant-loop-place : goal.invariant-loop-place
invariant-loop-place l =
    is_one_of_places (drop l.place-index l.places) (OfImageNamed l.name) ≡ is_one_of_places l.places (OfImageNamed l.name)
