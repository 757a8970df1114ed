use Rattle.std.proofs.Common.{◌≡◌, ◌+◌, ℕ, List, length, map, drop, sym, ap, subst, ◌∙◌, arith}
use Rattle.std.proofs.lemmas.List.{length-map}
use Rattle.bi_c.specs.Answers.{answer_of}
use Rattle.bi_c.specs.FitElements.{element_of_reservation}
use Rattle.bi_c.specs.declared.fit.ReservationElement.{ReservationElement}
use Rattle.bi_c.proofs.ArrayFilling.{IsFilling, filling_fits, filling_goes_on, array_is_short, array_is_filled}
use Rattle.bi_c.proofs.FitElements.{reservation_left, no_reservation_left}
use Rattle.bi_c.proofs.fit.fill_reservations.Goals as goal

pub returns-then-elements-count : goal.returns-then-elements-count
returns-then-elements-count c =
    let all = map element_of_reservation c.args.blob.now.reservations in
    let count : c.reservation_count-count.result ≡ length all =
    c.reservation_count-count.ensures ∙ sym (length-map c.args.blob.now.reservations element_of_reservation) in
    array_is_short _ all 0 c.args.elements.now _ (c.answer_with.ensures ∙ ap (λ (n : ℕ). answer_of n 0) count)
    (omega (arith, count, c.if-elements-count.true))

pub bounds-elements-index : goal.bounds-elements-index
bounds-elements-index c =
    let all = c.args.blob.now.reservations in
    let index = c.loop-address.index in
    let left = reservation_left all index c.in-Some.address c.in-Some.size (sym c.reservation.ensures ∙ c.in-Some.is) in
    filling_fits (map element_of_reservation all) (map element_of_reservation (drop (index + 1) all))
    (record { address = c.in-Some.address; size = c.in-Some.size }) index c.args.elements.now c.loop-address.elements
    (subst (λ (it : List ReservationElement).
    IsFilling (map element_of_reservation all) it index c.args.elements.now c.loop-address.elements)
    left c.loop-address.invariant)

pub loop-address-smaller : goal.loop-address-smaller
loop-address-smaller c =
    let all = c.args.blob.now.reservations in
    let index = c.loop-address.index in
    let e = ap length (reservation_left all index c.in-Some.address c.in-Some.size (sym c.reservation.ensures ∙ c.in-Some.is)) in
    omega (arith, e)

pub loop-address-preserved : goal.loop-address-preserved
loop-address-preserved c =
    let all = c.args.blob.now.reservations in
    let index = c.loop-address.index in
    let left = reservation_left all index c.in-Some.address c.in-Some.size (sym c.reservation.ensures ∙ c.in-Some.is) in
    filling_goes_on (map element_of_reservation all) (map element_of_reservation (drop (index + 1) all))
    (record { address = c.in-Some.address; size = c.in-Some.size }) index c.args.elements.now c.loop-address.elements
    (subst (λ (it : List ReservationElement).
    IsFilling (map element_of_reservation all) it index c.args.elements.now c.loop-address.elements)
    left c.loop-address.invariant)

pub returns : goal.returns
returns c =
    let reservations = c.args.blob.now.reservations in
    let all = map element_of_reservation reservations in
    let index = c.loop-address.index in
    let count : c.reservation_count-count.result ≡ length all =
    c.reservation_count-count.ensures ∙ sym (length-map reservations element_of_reservation) in
    array_is_filled _ all 0 index c.args.elements.now c.loop-address.elements _
    (c.answer_with.ensures ∙ ap (λ (n : ℕ). answer_of n 0) count)
    (subst (λ (it : List ReservationElement). IsFilling all it index c.args.elements.now c.loop-address.elements)
    (no_reservation_left reservations index (sym c.reservation.ensures ∙ c.in_default.is)) c.loop-address.invariant)
