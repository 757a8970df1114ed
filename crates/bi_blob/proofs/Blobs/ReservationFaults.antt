use Rattle.std.proofs.Common.{◌≡◌, ◌⊎◌, ℕ, zero, suc, ◌+◌, ◌-◌, ◌*◌, ◌<◌, ◌≤◌, ◌^◌, List, [], ◌∷◌, ◌++◌, length, take, drop, refl, sym, ap}
use Rattle.std.proofs.Common.{subst, ◌∙◌, inl, inr, arith, lit<, rules}
use Rattle.std.specs.List.{AllByRecursion, flat_map}
use Rattle.std.proofs.lemmas.Bool.{cases_lt}
use Rattle.std.proofs.lemmas.List.{length-append, append_assoc, take-append-drop}
use Rattle.std.proofs.Math.Seq.{take-add}
use Rattle.bi_base.specs.declared.fault.Cause.TheVariants.{Truncated}
use Rattle.bi_base.specs.declared.fault.Fault.{Fault}
use Rattle.bi_base.specs.Cells.{cell8, slice, u64_at, AreBytes}
use Rattle.bi_blob.specs.Blob.{Reservation, IsReservation, pair_bytes, end_pair, reservation_block, BeginsWithReservations, pair_at}
use Rattle.bi_blob.specs.Blob.{reservations_at}
use Rattle.bi_blob.specs.BlobFaults.{IsEndPair, HasReservations, IsReservationsFault}
use Rattle.bi_base.proofs.CellLaws.{length-slice}
use Rattle.bi_blob.proofs.Blobs.Cells.{BytesAt, BytesAt-from, BytesAt-left, BytesAt-right, BytesAt-join, BytesAt-cell8, u64_at-BytesAt}
use Rattle.bi_blob.proofs.Blobs.Cells.{u64_at-fits, length-cell8}
use Rattle.bi_blob.proofs.Blobs.TestedChecks.{IsEndPair_decided}

-- Proves that a memory reservation block has reservations and an end pair, or a fault, and that they are those read at their offsets.

pub length-pair_bytes : (pair : Reservation) → length (pair_bytes pair) ≡ 16
length-pair_bytes pair = simp (length-append, length-cell8) refl

-- The block of a first reservation and others is its pair and their block.
pub reservation_block-first : (pair : Reservation) (later : List Reservation) →
    reservation_block (pair ∷ later) ≡ pair_bytes pair ++ reservation_block later
reservation_block-first pair later = append_assoc (pair_bytes pair) (flat_map pair_bytes later) (pair_bytes end_pair)

pub length-reservation_block : (reservations : List Reservation) → length (reservation_block reservations) ≡ 16 * length reservations + 16
length-reservation_block [] = length-pair_bytes end_pair
length-reservation_block (pair ∷ later) =
    search (rules, length-pair_bytes, reservation_block-first, length-append, length-reservation_block later)

-- The pair that is read at an offset is there.
pair_is_there : (file : List ℕ) (at : ℕ) → AreBytes file → at + 16 ≤ length file → BytesAt file at (pair_bytes (pair_at file at))
pair_is_there file at bytes within = search (rules, BytesAt-join, BytesAt-cell8, length-cell8)

-- A pair at an offset is read there.
pub pair_read : (file : List ℕ) (at : ℕ) (pair : Reservation) → pair.address < 2 ^ 64 → pair.size < 2 ^ 64 →
    BytesAt file at (pair_bytes pair) → (u64_at file at ≡ pair.address) × (u64_at file (at + 8) ≡ pair.size)
pair_read file at pair address_fits size_fits is_at = (
  search (rules, u64_at-BytesAt, BytesAt-left),
  u64_at-BytesAt file (at + 8) pair.size size_fits
      (subst (λ n. BytesAt file (at + n) (cell8 pair.size)) (length-cell8 pair.address)
      (BytesAt-right file at (cell8 pair.address) (cell8 pair.size) is_at)),
)

-- A pair that is not the end pair is a reservation.
pair_is : (file : List ℕ) (at : ℕ) → AreBytes file → ¬ (IsEndPair file at) → IsReservation (pair_at file at)
pair_is file at bytes other = search (rules, u64_at-fits, cases_lt)

-- The pairs after the first one, counted from the first one.
one_later : (P : ℕ → Type 0) (at index : ℕ) → P (at + 16 + 16 * index) → P (at + 16 * (index + 1))
one_later P at index holds = search rules

one_earlier : (P : ℕ → Type 0) (at index : ℕ) → P (at + 16 * (index + 1)) → P (at + 16 + 16 * index)
one_earlier P at index holds = search rules

at_first : (P : ℕ → Type 0) (at : ℕ) → P at → P (at + 16 * 0)
at_first P at holds = search rules

from_first : (P : ℕ → Type 0) (at : ℕ) → P (at + 16 * 0) → P at
from_first P at holds = search rules

-- No pair before an index ends the block, where neither the first nor those after it do.
none_before : (file : List ℕ) (at count : ℕ) → ¬ (IsEndPair file at) →
    ((index : ℕ) → index < count → ¬ (IsEndPair file (at + 16 + 16 * index))) → (index : ℕ) → index < count + 1 →
    ¬ (IsEndPair file (at + 16 * index))
none_before file at count first later zero below = λ is. first (from_first (IsEndPair file) at is)
none_before file at count first later (suc index) below =
    let below_there : index < count = omega arith in
    λ is. later index below_there (one_earlier (IsEndPair file) at index
    (subst (λ n. IsEndPair file (at + 16 * n)) (one_more index) is)) where
      one_more : (n : ℕ) → suc n ≡ n + 1
      one_more n = omega arith

-- One more reservation before those of a block.
pub HasReservations-cons : (file : List ℕ) (at total count : ℕ) → ¬ (IsEndPair file at) → HasReservations file (at + 16) total count →
    HasReservations file at total (count + 1)
HasReservations-cons file at total count first later =
    let within : at + 16 + 16 * count + 16 ≤ total = later.within in
    record {
      before = none_before file at count first later.before;
      end = one_later (IsEndPair file) at count later.end;
      within = omega arith;
    }

-- One more reservation before the pair that gives the fault.
IsReservationsFault-cons : (file : List ℕ) (at total : ℕ) (fault : Fault) → ¬ (IsEndPair file at) →
    IsReservationsFault file (at + 16) total fault → IsReservationsFault file at total fault
IsReservationsFault-cons file at total fault first later =
    let fits : at + 16 + 16 * later.index ≤ total = later.fits in
    let past : total < at + 16 + 16 * later.index + 16 = later.past in
    record {
      index = later.index + 1;
      before = none_before file at later.index first later.before;
      fits = omega arith;
      past = omega arith;
      is = search (rules, one_later);
    }

-- What a memory reservation block has.
pub record HasSome (file : List ℕ) (at total : ℕ) : Type 0 where
  pub count : ℕ
  pub has : HasReservations file at total count

-- The end pair is first.
ends_here : (file : List ℕ) (at total : ℕ) → at + 16 ≤ total → IsEndPair file at → HasReservations file at total 0
ends_here file at total room end = search (rules, at_first)

-- The first pair extends past the blob.
past_here : (file : List ℕ) (at total : ℕ) → at ≤ total → total < at + 16 →
    IsReservationsFault file at total (record { cause = Truncated; offset = at })
past_here file at total fits past = search (rules, at_first)

-- What there is from an offset on: reservations and an end pair, or a fault.
abbrev pub HasSomeOrFault : List ℕ → ℕ → ℕ → Type 0
HasSomeOrFault file at total = HasSome file at total ⊎ ((fault : Fault) × IsReservationsFault file at total fault)

-- The same with a first pair that is not an end pair.
found_after : (file : List ℕ) (at total : ℕ) → ¬ (IsEndPair file at) → HasSomeOrFault file (at + 16) total → HasSomeOrFault file at total
found_after file at total first (inl later) = inl
    (record { count = later.count + 1; has = HasReservations-cons file at total later.count first later.has })
found_after file at total first (inr later) = inr (later.0, IsReservationsFault-cons file at total later.0 first later.1)

found_from : (steps : ℕ) (file : List ℕ) (at total : ℕ) → at ≤ total → total ≤ at + steps → HasSomeOrFault file at total
found_from zero file at total fits left = inr (record { cause = Truncated; offset = at }, past_here file at total fits (omega arith))
found_from (suc steps) file at total fits left =
    by_room (cases_lt total (at + 16)) (λ room. found_from steps file (at + 16) total room (omega arith)) where
      by_pair : at + 16 ≤ total → IsEndPair file at ⊎ ¬ (IsEndPair file at) → (at + 16 ≤ total → HasSomeOrFault file (at + 16) total) →
          HasSomeOrFault file at total
      by_pair room (inl end) later = inl (record { count = 0; has = ends_here file at total room end })
      by_pair room (inr other) later = found_after file at total other (later room)

      by_room : (total < at + 16) ⊎ (at + 16 ≤ total) → (at + 16 ≤ total → HasSomeOrFault file (at + 16) total) →
          HasSomeOrFault file at total
      by_room (inl past) later = inr (record { cause = Truncated; offset = at }, past_here file at total fits past)
      by_room (inr room) later = by_pair room (IsEndPair_decided file at) later

-- From an offset on there are reservations and an end pair, or a fault.
pub reservations_or_fault : (file : List ℕ) (at total : ℕ) → at ≤ total → HasSomeOrFault file at total
reservations_or_fault file at total fits = found_from total file at total fits (omega arith)

-- There is one fault at most.
pub one_reservations_fault : (file : List ℕ) (at total : ℕ) (f g : Fault) → IsReservationsFault file at total f →
    IsReservationsFault file at total g → f ≡ g
one_reservations_fault file at total f g one other = search rules

-- There are no reservations with an end pair if there is a fault.
pub no_reservations_with_fault : (file : List ℕ) (at total count : ℕ) (fault : Fault) → HasReservations file at total count →
    IsReservationsFault file at total fault → ⊥
no_reservations_with_fault file at total count fault has faulty = search rules

-- The reservations after the first one of a block.
HasReservations-later : (file : List ℕ) (at total count : ℕ) → HasReservations file at total (suc count) →
    HasReservations file (at + 16) total count
HasReservations-later file at total count has =
    let within : at + 16 * suc count + 16 ≤ total = has.within in
    let one_more : suc count ≡ count + 1 = omega arith in
    record {
      before = λ index below.
          let below_there : index + 1 < suc count = omega arith in
          λ is. has.before (index + 1) below_there (one_later (IsEndPair file) at index is);
      end = search (rules, one_earlier);
      within = omega arith;
    }

-- They are reservations.
are_reservations_at : (file : List ℕ) (at total count : ℕ) → AreBytes file → HasReservations file at total count →
    AllByRecursion IsReservation (reservations_at file at count)
are_reservations_at file at total zero bytes has = tt
are_reservations_at file at total (suc count) bytes has =
    let first : 0 < suc count = omega arith in (
      pair_is file at bytes (λ is. has.before 0 first (at_first (IsEndPair file) at is)),
      are_reservations_at file (at + 16) total count bytes (HasReservations-later file at total count has),
    )

-- The end pair is where both of its numbers are zero.
end_pair_is_there : (file : List ℕ) (at : ℕ) → AreBytes file → at + 16 ≤ length file → IsEndPair file at →
    BytesAt file at (pair_bytes end_pair)
end_pair_is_there file at bytes within is = search (rules, pair_is_there)

-- Their block is at the offset.
reservations_are_there : (file : List ℕ) (at total count : ℕ) → AreBytes file → total ≤ length file → HasReservations file at total count →
    BytesAt file at (reservation_block (reservations_at file at count))
reservations_are_there file at total zero bytes inside has =
    let within : at + 16 * 0 + 16 ≤ total = has.within in
    end_pair_is_there file at bytes (omega arith) (from_first (IsEndPair file) at has.end)
reservations_are_there file at total (suc count) bytes inside has =
    let within : at + 16 * suc count + 16 ≤ total = has.within in
    subst (BytesAt file at) (sym (reservation_block-first (pair_at file at) (reservations_at file (at + 16) count)))
    (BytesAt-join file at (pair_bytes (pair_at file at)) (reservation_block (reservations_at file (at + 16) count))
    (pair_is_there file at bytes (omega arith))
    (subst (λ n. BytesAt file (at + n) (reservation_block (reservations_at file (at + 16) count)))
    (sym (length-pair_bytes (pair_at file at)))
    (reservations_are_there file (at + 16) total count bytes inside (HasReservations-later file at total count has))))

pub length-reservations_at : (file : List ℕ) (at count : ℕ) → length (reservations_at file at count) ≡ count
length-reservations_at file at zero = refl
length-reservations_at file at (suc count) = ap suc (length-reservations_at file (at + 16) count)

-- The bytes up to an end begin with the bytes at an offset.
begins : (file : List ℕ) (at total : ℕ) (bytes : List ℕ) → BytesAt file at bytes → length bytes ≤ total - at →
    slice file at (total - at) ≡ bytes ++ take ((total - at) - length bytes) (drop (length bytes) (drop at file))
begins file at total bytes is_at fits =
    ap (λ n. take n (drop at file)) sum
    ∙ take-add (length bytes) ((total - at) - length bytes) (drop at file)
    ∙ ap (λ l. l ++ take ((total - at) - length bytes) (drop (length bytes) (drop at file))) is_at where
      sum : total - at ≡ length bytes + ((total - at) - length bytes)
      sum = omega arith

-- A block of reservations is one, byte by byte.
pub HasReservations-BeginsWithReservations : (file : List ℕ) (at total count : ℕ) → AreBytes file → total ≤ length file →
    HasReservations file at total count → BeginsWithReservations (slice file at (total - at)) (reservations_at file at count)
HasReservations-BeginsWithReservations file at total count bytes inside has =
    let all : List Reservation = reservations_at file at count in
    let within : at + 16 * count + 16 ≤ total = has.within in
    let long : length (reservation_block all) ≡ 16 * length all + 16 = length-reservation_block all in
    let many : length all ≡ count = length-reservations_at file at count in
    record {
      are_reservations = are_reservations_at file at total count bytes has;
      trailing = take ((total - at) - length (reservation_block all)) (drop (length (reservation_block all)) (drop at file));
      is_at = begins file at total (reservation_block all) (reservations_are_there file at total count bytes inside has) (omega arith);
    }

-- A block at an offset has as many reservations as its list.
block_has : (file : List ℕ) (at total : ℕ) (all : List Reservation) → AllByRecursion IsReservation all →
    BytesAt file at (reservation_block all) → at + (16 * length all + 16) ≤ total → HasReservations file at total (length all)
block_has file at total [] are is_at fits =
    let read : (u64_at file at ≡ 0) × (u64_at file (at + 8) ≡ 0) = pair_read file at end_pair (lit< tt) (lit< tt) is_at in
    ends_here file at total (omega arith) (record { address = read.0; size = read.1 })
block_has file at total (pair ∷ later) are is_at fits =
    let split : BytesAt file at (pair_bytes pair ++ reservation_block later) = search (rules, reservation_block-first) in
    let read : (u64_at file at ≡ pair.address) × (u64_at file (at + 8) ≡ pair.size) =
    search (rules, pair_read, BytesAt-left) in
    let some : 0 < pair.address + pair.size = are.0.some in
    let rest : HasReservations file (at + 16) total (length later) =
    block_has file (at + 16) total later are.1
    (subst (λ n. BytesAt file (at + n) (reservation_block later)) (length-pair_bytes pair)
    (BytesAt-right file at (pair_bytes pair) (reservation_block later) split))
    (omega arith) in
    subst (HasReservations file at total) (one_more (length later))
    (HasReservations-cons file at total (length later) (λ is. not_end is read some) rest) where
      one_more : (n : ℕ) → n + 1 ≡ suc n
      one_more n = omega arith

      not_end : IsEndPair file at → (u64_at file at ≡ pair.address) × (u64_at file (at + 8) ≡ pair.size) → 0 < pair.address + pair.size → ⊥
      not_end is read some =
          let address : u64_at file at ≡ 0 = is.address in
          let size : u64_at file (at + 8) ≡ 0 = is.size in
          let one : u64_at file at ≡ pair.address = read.0 in
          let other : u64_at file (at + 8) ≡ pair.size = read.1 in
          omega arith

-- Reserved bytes have as many reservations as they are made of.
pub BeginsWithReservations-HasReservations : (file : List ℕ) (at total : ℕ) (all : List Reservation) → at ≤ total → total ≤ length file →
    BeginsWithReservations (slice file at (total - at)) all → HasReservations file at total (length all)
BeginsWithReservations-HasReservations file at total all ordered inside reserved =
    let size : ℕ = total - at in
    let long : length (slice file at size) ≡ size = length-slice file at size (omega arith) in
    let parts : length (slice file at size) ≡ length (reservation_block all) + length reserved.trailing =
    ap length reserved.is_at ∙ length-append (reservation_block all) reserved.trailing in
    let block : length (reservation_block all) ≡ 16 * length all + 16 = length-reservation_block all in
    block_has file at total all reserved.are_reservations
    (BytesAt-from file at (reservation_block all) (reserved.trailing ++ drop size (drop at file))
    (sym (take-append-drop size (drop at file)) ∙ ap (λ l. l ++ drop size (drop at file)) reserved.is_at
    ∙ append_assoc (reservation_block all) reserved.trailing (drop size (drop at file))))
    (omega arith)
