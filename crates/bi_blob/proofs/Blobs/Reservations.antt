use Rattle.std.proofs.Common.{◌≡◌, ℕ, ◌+◌, ◌<◌, ◌^◌, List, [], ◌∷◌, ◌++◌, refl, sym, ◌∙◌, lit<, rules}
use Rattle.std.specs.List.{AllByRecursion}
use Rattle.std.proofs.lemmas.List.{append_assoc}
use Rattle.bi_base.specs.Cells.{cell8}
use Rattle.bi_blob.specs.Blob.{Reservation, IsReservation, pair_bytes, end_pair, reservation_block}
use Rattle.bi_base.proofs.CellLaws.{parts_agree}
use Rattle.bi_blob.proofs.Blobs.Cells.{length-cell8, cell8_agree}

-- Proves that a list of bytes begins with the memory reservation block of at most one list of reservations.

-- Both numbers of a pair are read from its bytes.
pairs_agree : (a b : Reservation) (x y : List ℕ) → a.address < 2 ^ 64 → a.size < 2 ^ 64 → b.address < 2 ^ 64 → b.size < 2 ^ 64 →
    pair_bytes a ++ x ≡ pair_bytes b ++ y → (a ≡ b) × (x ≡ y)
pairs_agree a b x y a1 a2 b1 b2 e =
    let first : (cell8 a.address ≡ cell8 b.address) × (cell8 a.size ++ x ≡ cell8 b.size ++ y) =
    parts_agree (cell8 a.address) (cell8 b.address) (cell8 a.size ++ x) (cell8 b.size ++ y)
    (length-cell8 a.address ∙ sym (length-cell8 b.address))
    (search (rules, append_assoc)) in
    let second : (cell8 a.size ≡ cell8 b.size) × (x ≡ y) =
    parts_agree (cell8 a.size) (cell8 b.size) x y (length-cell8 a.size ∙ sym (length-cell8 b.size)) first.1 in
    search (rules, cell8_agree)

-- A block with a range begins with its pair.
pub reservation_block-cons : (reservation : Reservation) (later : List Reservation) (x : List ℕ) →
    reservation_block (reservation ∷ later) ++ x ≡ pair_bytes reservation ++ (reservation_block later ++ x)
reservation_block-cons reservation later x = search (rules, append_assoc)

-- A pair of a range is not the end pair.
no_end_pair : (reservation : Reservation) (x y : List ℕ) → IsReservation reservation →
    pair_bytes reservation ++ x ≡ pair_bytes end_pair ++ y → ⊥
no_end_pair reservation x y is e =
    let same : reservation ≡ end_pair = (pairs_agree reservation end_pair x y is.address_fits is.size_fits (lit< tt) (lit< tt) e).0 in
    search rules

-- Two blocks of reservations that begin one list have the same reservations.
pub reservations_agree : (rs ss : List Reservation) (x y : List ℕ) → AllByRecursion IsReservation rs → AllByRecursion IsReservation ss →
    reservation_block rs ++ x ≡ reservation_block ss ++ y → rs ≡ ss
reservations_agree [] [] x y are_rs are_ss e = refl
reservations_agree [] (b ∷ ss) x y are_rs are_ss e = search (rules, no_end_pair, reservation_block-cons)
reservations_agree (a ∷ rs) [] x y are_rs are_ss e = search (rules, no_end_pair, reservation_block-cons)
reservations_agree (a ∷ rs) (b ∷ ss) x y are_rs are_ss e =
    let first : (a ≡ b) × (reservation_block rs ++ x ≡ reservation_block ss ++ y) =
    search (rules, pairs_agree, reservation_block-cons) in
    search (rules, reservations_agree rs ss x y are_rs.1 are_ss.1 first.1)
