use Rattle.std.proofs.Common.{◌≡◌, ℕ, ◌+◌, ◌<◌, ◌≤◌, List, [], ◌∷◌, length, map, drop, get_or, arith, sym, ap, ◌∙◌, subst, rules}
use Rattle.std.specs.Borrow.{Bor}
use Rattle.std.proofs.lemmas.List.{drop_more, drop-map, get_or-map, length-map}
use Rattle.bi_base.specs.Cells.{up4}
use Rattle.bi_base.specs.Checks.{IsFirstFault, HasNoFault}
use Rattle.bi_base.specs.declared.fault.Fault.{Fault}
use Rattle.bi_base.specs.Slices.{bytes_of}
use Rattle.bi_legacy.specs.Emitting.{EmitPartPasses, emit_part_fault, emit_part_checks}
use Rattle.bi_legacy.specs.Parts.{parts_end_from}

-- An empty part is the first fault of the parts from it on. If a part is not empty, their first fault is that of the parts after it.

-- An end is at most the end of the parts after it.
pub parts_end_from-grows : (end : ℕ) (sizes : List ℕ) → end ≤ parts_end_from end sizes
parts_end_from-grows end [] = omega arith
parts_end_from-grows end (size ∷ sizes) = omega (arith, parts_end_from-grows (up4 end + size) sizes)

-- The parts that are left are the next one and those after it.
pub drop-bytes_of : (slices : List (Bor (List ℕ))) (i : ℕ) (d : Bor (List ℕ)) → i < length slices →
    drop i (bytes_of slices) ≡ (get_or slices i d).now ∷ drop (i + 1) (bytes_of slices)
drop-bytes_of slices i d within =
    let now = λ (slice : Bor (List ℕ)). slice.now in
    drop_more (bytes_of slices) i d.now (omega (arith, length-map slices now))
    ∙ ap (λ part. part ∷ drop (i + 1) (bytes_of slices)) (get_or-map now slices i d d.now within)

-- The sizes that are left are that of the next part and those after it.
pub drop-sizes_of : (slices : List (Bor (List ℕ))) (i : ℕ) (d : Bor (List ℕ)) → i < length slices →
    drop i (map length (bytes_of slices)) ≡ length (get_or slices i d).now ∷ drop (i + 1) (map length (bytes_of slices))
drop-sizes_of slices i d within = search (rules, drop-map, drop-bytes_of)

-- An empty part is the first fault of those that are left.
pub empty_here : (index : ℕ) (part : List ℕ) (parts later : List (List ℕ)) → parts ≡ part ∷ later → length part ≡ 0 →
    IsFirstFault EmitPartPasses emit_part_fault (emit_part_checks index parts) (emit_part_fault record { index = index; part = part })
empty_here index part parts later e empty = search rules

-- After a part that is not empty, the first fault is that of the others.
pub empty_later : (index : ℕ) (part : List ℕ) (parts later : List (List ℕ)) (fault : Fault) → parts ≡ part ∷ later → 0 < length part →
    IsFirstFault EmitPartPasses emit_part_fault (emit_part_checks (index + 1) later) fault →
    IsFirstFault EmitPartPasses emit_part_fault (emit_part_checks index parts) fault
empty_later index part parts later fault e some rest = search rules

-- A part that is not empty passes, and then the others.
pub none_empty : (index : ℕ) (part : List ℕ) (parts later : List (List ℕ)) → parts ≡ part ∷ later → 0 < length part →
    HasNoFault EmitPartPasses (emit_part_checks (index + 1) later) → HasNoFault EmitPartPasses (emit_part_checks index parts)
none_empty index part parts later e some rest =
    subst (λ (left : List (List ℕ)). HasNoFault EmitPartPasses (emit_part_checks index left)) (sym e) (some, rest)
