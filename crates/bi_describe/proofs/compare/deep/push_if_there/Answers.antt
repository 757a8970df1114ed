use Rattle.bi_describe.proofs.OpenedPlaces.{no_more, places_more}
use Rattle.bi_describe.specs.MadeInsides.{is_one_of_places}
use Rattle.std.proofs.Common.{sym}
use Rattle.bi_describe.proofs.compare.deep.push_if_there.Goals as goal

pub returns-in_ok-push-in-Some : goal.returns-in_ok-push-in-Some
returns-in_ok-push-in-Some c = λ payload. rw (c.in_ok-push-in-Some.ensures.items, c.in-Some.is)
    (places_more c.args.places.now.items c.in-Some.place payload)
