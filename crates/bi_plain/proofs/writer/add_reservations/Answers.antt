use Rattle.std.proofs.Common.{◌≡◌, suc, drop, map, Some, slice_get, OnOk, sym, ap, subst, ◌∙◌, add-one}
use Rattle.std.specs.List.{AllByRecursion}
use Rattle.bi_blob.specs.Blob.{IsReservation}
use Rattle.bi_lay.specs.Contents.{with_reservation}
use Rattle.bi_fit.specs.NormalNodes.{with_reservations}
use Rattle.bi_fit.proofs.Reservations.{pair_of, reservations_from, with_reservations-cons}
use Rattle.bi_plain.proofs.writer.add_reservations.Goals as goal

pub reserve-requires : goal.reserve-requires
reserve-requires c =
    let found : slice_get (map pair_of c.args.blob.now.reservations) c.loop-index.index ≡ Some (
      c.in-Some.address,
      c.in-Some.size,
    ) = sym c.in-Some.ensures in
    (subst (AllByRecursion IsReservation)
    (reservations_from c.args.blob.now.reservations c.loop-index.index (c.in-Some.address, c.in-Some.size) found)
    c.loop-index.invariant.valid).0.some

pub loop-index-preserved : goal.loop-index-preserved
loop-index-preserved c =
    let found : slice_get (map pair_of c.args.blob.now.reservations) c.loop-index.index ≡ Some (
      c.in-Some.address,
      c.in-Some.size,
    ) = sym c.in-Some.ensures in
    let later = drop (suc c.loop-index.index) c.args.blob.now.reservations in
    let all = reservations_from c.args.blob.now.reservations c.loop-index.index (c.in-Some.address, c.in-Some.size) found in
    let reserved : c.reserve.new.self ≡ with_reservation c.loop-index.doc c.in-Some.address c.in-Some.size =
    subst (λ outcome. OnOk outcome (c.reserve.new.self ≡ with_reservation c.loop-index.doc c.in-Some.address c.in-Some.size))
    c.in_ok-only_memory.ensures.value c.reserve.ensures.reserved in
    rw add-one (record {
      added = ap (λ document. with_reservations document later) reserved
          ∙ with_reservations-cons c.loop-index.doc c.in-Some.address c.in-Some.size later
          ∙ ap (with_reservations c.loop-index.doc) (sym all)
          ∙ c.loop-index.invariant.added;
      valid = (subst (AllByRecursion IsReservation) all c.loop-index.invariant.valid).1;
    })
