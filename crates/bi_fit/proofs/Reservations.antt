use Rattle.std.proofs.Common.{◌≡◌, ℕ, zero, suc, true, ◌&&◌, List, [], ◌∷◌, take, drop, map, Option, Some, None, slice_get, refl, ap, ap₂}
use Rattle.std.proofs.Common.{append_assoc, rules}
use Rattle.std.specs.Prelude.{nat_eq}
use Rattle.std.specs.Option.{option_eq}
use Rattle.std.proofs.lemmas.Bool.{and_parts}
use Rattle.std.proofs.lemmas.Bool.Decides.{Decides-eqb}
use Rattle.bi_blob.specs.Blob.{Reservation}
use Rattle.bi_lay.specs.Contents.{Doc, with_reservation}
use Rattle.bi_fit.specs.NormalNodes.{with_reservations}
use Rattle.bi_fit.proofs.Meanings.{same_in_some}

-- Memory reservations are added to a document one after the other, and those of two blobs are the same if they are at each index.

-- The address and the size of a reservation.
abbrev pub pair_of : Reservation → ℕ × ℕ
pair_of reservation = (reservation.address, reservation.size)

-- The reservations from an index on, if there is one there.
pub reservations_from : (reservations : List Reservation) (index : ℕ) (pair : ℕ × ℕ) →
    slice_get (map pair_of reservations) index ≡ Some pair →
    drop index reservations ≡ record { address = pair.0; size = pair.1 } ∷ drop (suc index) reservations
reservations_from [] zero pair is = absurd cc
reservations_from [] (suc index) pair is = absurd cc
reservations_from (reservation ∷ later) zero pair is =
    ap (λ (pair : ℕ × ℕ). record { address = pair.0; size = pair.1 } ∷ later) (same_in_some (pair_of reservation) pair is)
reservations_from (reservation ∷ later) (suc index) pair is = reservations_from later index pair is

-- One reservation and then others.
pub with_reservations-cons : (document : Doc) (address size : ℕ) (later : List Reservation) →
    with_reservations (with_reservation document address size) later
    ≡ with_reservations document (record { address = address; size = size } ∷ later)
with_reservations-cons document address size later = search (rules, append_assoc)

-- The test of two pairs that may be there is true only if they are the same.
pub same_pairs : (one other : Option (ℕ × ℕ)) → option_eq (λ x y. nat_eq x.0 y.0 && nat_eq x.1 y.1) one other ≡ true → one ≡ other
same_pairs None None is = refl
same_pairs None (Some other) is = absurd cc
same_pairs (Some one) None is = absurd cc
same_pairs (Some one) (Some other) is = search (rules, and_parts, Decides-eqb)

-- First reservations that are the same, and one more.
pub same_with_next : (reservations others : List Reservation) (index : ℕ) → take index reservations ≡ take index others →
    slice_get (map pair_of reservations) index ≡ slice_get (map pair_of others) index →
    take (suc index) reservations ≡ take (suc index) others
same_with_next [] [] index same next = refl
same_with_next [] (other ∷ others) zero same next = absurd cc
same_with_next [] (other ∷ others) (suc index) same next = absurd cc
same_with_next (reservation ∷ later) [] zero same next = absurd cc
same_with_next (reservation ∷ later) [] (suc index) same next = absurd cc
same_with_next (reservation ∷ later) (other ∷ others) zero same next = search (rules, same_in_some)
same_with_next (reservation ∷ later) (other ∷ others) (suc index) same next =
    let first : reservation ≡ other = cc in
    let rest : take index later ≡ take index others = cc in
    ap₂ (λ r rs. r ∷ rs) first (same_with_next later others index rest next)
