use Rattle.std.proofs.Common.{add-one, arith, refl, sym, ◌∙◌}
use Rattle.std.proofs.lemmas.Bool.{not-false}
use Rattle.std.proofs.lemmas.List.{take_all}
use Rattle.bi_fit.proofs.Reservations.{same_pairs, same_with_next}
use Rattle.bi_describe.proofs.describe.kept.tree.have_same_reservations.Goals as goal

pub loop-index-preserved : goal.loop-index-preserved
loop-index-preserved c =
    rw add-one
    (same_with_next c.args.one.now.reservations c.args.other.now.reservations c.loop-index.index c.loop-index.invariant
    (sym c.reservation.ensures
    ∙ same_pairs c.reservation.result c.reservation-in-loop-index.result (not-false _ (sym c.if-ne.ensures))
    ∙ c.reservation-in-loop-index.ensures))

pub returns : goal.returns
returns c = (
  (λ is. sym (take_all c.loop-index.index c.args.one.now.reservations (omega arith)) ∙ c.loop-index.invariant
      ∙ take_all c.loop-index.index c.args.other.now.reservations (omega arith)),
  (λ same. refl),
)
