use Rattle.std.proofs.Common.{◌≡◌, ℕ, ◌+◌, ◌<◌, ◌≤◌, List, [], ◌∷◌, length, drop, arith, suc, sym, ap, ◌∙◌, subst, refl, inr, rules}
use Rattle.std.proofs.lemmas.List.{length-drop, drop_more}
use Rattle.bi_base.specs.declared.fault.Fault.{Fault}
use Rattle.bi_base.specs.Cells.{up4}
use Rattle.bi_base.specs.Checks.{IsFirstFault}
use Rattle.bi_legacy.specs.PartTables.{TablePasses, table_fault, part_checks, HasPart}
use Rattle.bi_legacy.specs.Parts.{parts_end_from}
use Rattle.bi_legacy.specs.PartRanges.{FitWithin, part_ranges}
use Rattle.bi_legacy.specs.declared.part_ranges.PartRange.{PartRange}

-- Parts fit if the first one fits and the later ones fit after it, and the first fault is that of the first part that does not fit.

-- Parts fit where the first one fits and the later ones fit after it.
pub FitWithin-one : (most at size : ℕ) (sizes later : List ℕ) → sizes ≡ size ∷ later → at + size ≤ most →
    FitWithin most (up4 (at + size)) later → FitWithin most at sizes
FitWithin-one most at size sizes later e fits rest = subst (FitWithin most at) (sym e) (fits, rest)

-- The end of the last part, by the end of the first one.
pub parts_end_from-one : (end size : ℕ) (sizes later : List ℕ) → sizes ≡ size ∷ later →
    parts_end_from end sizes ≡ parts_end_from (up4 end + size) later
parts_end_from-one end size sizes later e = ap (parts_end_from end) e

-- The first fault is that of the first part where it does not fit.
pub first-here : (body : List ℕ) (index at size : ℕ) (sizes later : List ℕ) → sizes ≡ size ∷ later → ¬ (at + size ≤ length body) →
    IsFirstFault (TablePasses body) table_fault (part_checks index at sizes) (table_fault (HasPart index (at + size)))
first-here body index at size sizes later e fails = search rules

-- Where it fits, the first fault is that of the others.
pub first-later : (body : List ℕ) (index at size : ℕ) (sizes later : List ℕ) (fault : Fault) → sizes ≡ size ∷ later →
    at + size ≤ length body → IsFirstFault (TablePasses body) table_fault (part_checks (index + 1) (up4 (at + size)) later) fault →
    IsFirstFault (TablePasses body) table_fault (part_checks index at sizes) fault
first-later body index at size sizes later fault e fits rest =
    subst (λ (left : List ℕ). IsFirstFault (TablePasses body) table_fault (part_checks index at left) fault) (sym e) (inr (fits, rest))

-- The first of some ranges is that of the first size.
ranges_cons : (at : ℕ) (sizes : List ℕ) (range : PartRange) (rest : List PartRange) → part_ranges at sizes ≡ range ∷ rest →
    (later : List ℕ) × (sizes ≡ range.size ∷ later) × (at ≡ range.start) × (rest ≡ part_ranges (up4 (at + range.size)) later)
ranges_cons at [] range rest e = absurd cc
ranges_cons at (size ∷ sizes) range rest e = (sizes, cc, cc, cc)

-- The next range is that of the next size, and the others are those of the later sizes.
pub next_range : (sizes : List ℕ) (index at : ℕ) (left rest : List PartRange) (range : PartRange) →
    left ≡ part_ranges at (drop index sizes) → left ≡ range ∷ rest →
    (index < length sizes) × (drop index sizes ≡ range.size ∷ drop (index + 1) sizes) × (range.start ≡ at)
    × (rest ≡ part_ranges (up4 (at + range.size)) (drop (index + 1) sizes))
next_range sizes index at left rest range all next =
    let first = ranges_cons at (drop index sizes) range rest (sym all ∙ next) in
    let below : index < length sizes = omega (arith, length-drop index sizes, ap length first.1) in
    let more = drop_more sizes index 0 below in
    let later : first.0 ≡ drop (index + 1) sizes = cc in
    (below, first.1 ∙ ap (λ l. range.size ∷ l) later, sym first.2, first.3 ∙ ap (part_ranges (up4 (at + range.size))) later)

-- Where no ranges are left, no sizes are left.
pub no_range : (sizes : List ℕ) (at : ℕ) (left : List PartRange) → left ≡ part_ranges at sizes → left ≡ [] → sizes ≡ []
no_range [] at left all none = refl
no_range (size ∷ sizes) at left all none = absurd cc

-- There is a range for each size.
pub length-part_ranges : (at : ℕ) (sizes : List ℕ) → length (part_ranges at sizes) ≡ length sizes
length-part_ranges at [] = refl
length-part_ranges at (size ∷ sizes) = ap suc (length-part_ranges (up4 (at + size)) sizes)
