use Rattle.std.proofs.Common.{◌≡◌, ℕ, ◌+◌, ◌-◌, ◌*◌, ◌≤◌, List, ◌++◌, [], ◌∷◌, length, take, drop, flat_map, refl, arith, sym, ap, ◌∙◌}
use Rattle.std.proofs.Common.{subst₂, append_assoc, rules}
use Rattle.std.proofs.Math.Seq.{drop-append_seam}
use Rattle.std.proofs.lemmas.List.{length-append, take-append-drop}
use Rattle.bi_base.specs.Cells.{cell, slice, up4}
use Rattle.bi_base.proofs.CellLaws.{slice-append, length-slice, length-cell}
use Rattle.bi_legacy.specs.Parts.{ArePaddedParts, part_table}

-- Padded parts in order are the parts at increasing multiples of four.

-- A multiple of four is its own next multiple of four.
pub up4_of_four : (n : ℕ) → up4 (4 * n) ≡ 4 * n
up4_of_four n = omega arith

-- The cells of the lengths of parts are four bytes each.
length-part_cells : (parts : List (List ℕ)) → length (flat_map (λ (part : List ℕ). cell (length part)) parts) ≡ 4 * length parts
length-part_cells [] = refl
length-part_cells (part ∷ later) = search (rules, length-append, length-cell, length-part_cells later)

-- The part table has a cell for each part, and one more.
pub length-part_table : (parts : List (List ℕ)) → length (part_table parts) ≡ 4 * (length parts + 1)
length-part_table parts = search (rules, length-append, length-part_cells, length-cell)

-- The next multiple of four is a multiple of four.
pub up4-up4 : (n : ℕ) → up4 (up4 n) ≡ up4 n
up4-up4 n = omega arith

-- Each part is in this data, the first at `at` and each later one at the next multiple of four.
abbrev pub ArePartsAt : ℕ → List (List ℕ) → List ℕ → Type 0
ArePartsAt at [] body = Unit {0}
ArePartsAt at (part ∷ parts) body =
    (at + length part ≤ length body) × (slice body at (length part) ≡ part) × ArePartsAt (up4 (at + length part)) parts body

-- After an aligned front, a part with its padding ends at the next multiple of four.
padded_end : (front part padding : List ℕ) → up4 (length front) ≡ length front → length part + length padding ≡ up4 (length part) →
    length (front ++ (part ++ padding)) ≡ up4 (length front + length part)
padded_end front part padding aligned whole =
    length-append front (part ++ padding) ∙ omega (arith, length-append part padding, aligned, whole)

-- What follows it is aligned.
padded_aligned : (front part padding : List ℕ) → up4 (length front) ≡ length front → length part + length padding ≡ up4 (length part) →
    up4 (length (front ++ (part ++ padding))) ≡ length (front ++ (part ++ padding))
padded_aligned front part padding aligned whole =
    let ends = padded_end front part padding aligned whole in ap up4 ends ∙ up4-up4 (length front + length part) ∙ sym ends

-- A part and its padding may be added to the front.
padded_front : (front part padding after : List ℕ) → (front ++ (part ++ padding)) ++ after ≡ front ++ (part ++ (padding ++ after))
padded_front front part padding after =
    append_assoc front (part ++ padding) after ∙ ap (λ list. front ++ list) (append_assoc part padding after)

-- Padded parts after an aligned front are at these offsets.
pub padded_parts-at : (front : List ℕ) (parts : List (List ℕ)) (bytes : List ℕ) → up4 (length front) ≡ length front →
    ArePaddedParts parts bytes → ArePartsAt (length front) parts (front ++ bytes)
padded_parts-at front [] bytes aligned turn = tt
padded_parts-at front (part ∷ []) bytes aligned turn = search (rules, length-append, slice-append)
padded_parts-at front (part ∷ next ∷ later) bytes aligned turn =
    let padding = turn.0 in
    let after = turn.1 in
    let whole : length part + length padding ≡ up4 (length part) = turn.3 in
    let rest : ArePartsAt (up4 (length front + length part)) (next ∷ later) (front ++ (part ++ (padding ++ after))) =
    subst₂ (λ at body. ArePartsAt at (next ∷ later) body) (padded_end front part padding aligned whole)
    (padded_front front part padding after)
    (padded_parts-at (front ++ (part ++ padding)) (next ∷ later) after (padded_aligned front part padding aligned whole) turn.4) in
    rw turn.2 (
      omega (arith, length-append front (part ++ (padding ++ after)), length-append part (padding ++ after)),
      slice-append front part (padding ++ after),
      rest,
    )

-- The slice right after a front is the first of the bytes there.
first_part-at : (front bytes part : List ℕ) → slice (front ++ bytes) (length front) (length part) ≡ part →
    bytes ≡ part ++ drop (length part) bytes
first_part-at front bytes part at_offsets = search (rules, take-append-drop, drop-append_seam)

-- Parts at these offsets after an aligned front are padded parts in order.
pub padded_parts-from : (front : List ℕ) (parts : List (List ℕ)) (bytes : List ℕ) → up4 (length front) ≡ length front →
    ArePartsAt (length front) parts (front ++ bytes) → ArePaddedParts parts bytes
padded_parts-from front [] bytes aligned at_offsets = tt
padded_parts-from front (part ∷ []) bytes aligned at_offsets = (drop (length part) bytes, first_part-at front bytes part at_offsets.1)
padded_parts-from front (part ∷ next ∷ later) bytes aligned at_offsets =
    let gap : ℕ = up4 (length part) - length part in
    let left = drop (length part) bytes in
    let padding = take gap left in
    let after = drop gap left in
    let split : bytes ≡ part ++ (padding ++ after) =
    first_part-at front bytes part at_offsets.1 ∙ ap (λ list. part ++ list) (sym (take-append-drop gap left)) in
    let whole : length part + length padding ≡ up4 (length part) =
    omega (arith, length-slice bytes (length part) gap (omega (arith, at_offsets.2.0, length-append front bytes, aligned))) in
    let rest : ArePartsAt (length (front ++ (part ++ padding))) (next ∷ later) ((front ++ (part ++ padding)) ++ after) =
    subst₂ (λ at body. ArePartsAt at (next ∷ later) body)
    (sym (padded_end front part padding aligned whole))
    (ap (λ list. front ++ list) split ∙ sym (padded_front front part padding after))
    at_offsets.2 in (
      padding,
      after,
      split,
      whole,
      padded_parts-from (front ++ (part ++ padding)) (next ∷ later) after
          (padded_aligned front part padding aligned whole) rest,
    )
