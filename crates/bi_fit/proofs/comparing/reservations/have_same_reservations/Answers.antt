use Rattle.std.proofs.Common.{add-one, sym, ◌∙◌}
use Rattle.std.proofs.lemmas.Bool.{not-false}
use Rattle.bi_fit.proofs.Reservations.{same_pairs, same_with_next}
use Rattle.bi_fit.proofs.comparing.reservations.have_same_reservations.Goals as goal

pub loop-index-preserved : goal.loop-index-preserved
loop-index-preserved c =
    rw add-one
    (same_with_next c.args.own.now.reservations c.args.other.now.reservations c.loop-index.index c.loop-index.invariant
    (sym c.reservation.ensures
    ∙ same_pairs c.reservation.result c.reservation-in-loop-index.result (not-false _ (sym c.if-ne.ensures))
    ∙ c.reservation-in-loop-index.ensures))
