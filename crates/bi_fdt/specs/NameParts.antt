use Rattle.std.specs.Prelude.{◌≡◌, ◌⊎◌, ◌<◌, ◌≤◌, ℕ, List, [], ◌∷◌, ◌++◌, length, map, Some}
use Rattle.std.specs.Prelude.{slice_get}
use Rattle.std.specs.Prelude.{Option, MatchOption}
use Rattle.std.specs.Borrow.{Bor}
use Rattle.bi_fdt.specs.Numbers.{BeginsWith}
use Rattle.bi_fdt.specs.PartNumbers.{bucket_count, number_in}
use Rattle.bi_fdt.specs.declared.name_parts.NameParts.TheInside.{Inside}

-- Parts of names, each with a number: its index in the order of their first use.

-- A part of a name: the number of the blocks after it, and its bytes.
abbrev pub NamePart : Type 0
NamePart = ℕ × List ℕ

-- No part is in a list twice.
abbrev pub AreOnce : List NamePart → Type 0
AreOnce parts = (part : NamePart) (m n : ℕ) → slice_get parts m ≡ Some part
    → slice_get parts n ≡ Some part → m ≡ n

-- The blocks after each part have the number of a part before it, or there are none.
abbrev pub AreAfterTails : List NamePart → Type 0
AreAfterTails parts =
    (index : ℕ) (part : NamePart) → slice_get parts index ≡ Some part → part.0 ≤ index

-- A part is not in a list.
abbrev pub IsNewPart : NamePart → List NamePart → Type 0
IsNewPart part parts = (index : ℕ) → ¬ (slice_get parts index ≡ Some part)

-- A part is in a list at the index that is found, or it is not there and none is found.
abbrev pub FindsPart : List NamePart → NamePart → Option ℕ → Type 0
FindsPart parts part found =
    MatchOption found (IsNewPart part parts) (λ index. slice_get parts index ≡ Some part)

-- A part was in a list at this index, or it was not there and is now at the end, at this index.
abbrev pub IsPlaced : List NamePart → NamePart → ℕ → List NamePart → Type 0
IsPlaced old part index new = ((slice_get old index ≡ Some part) × (new ≡ old))
    ⊎ (IsNewPart part old × (index ≡ length old) × (new ≡ old ++ part ∷ []))

-- The same parts and maybe more: each part keeps its number, they are still distinct, and they are
-- still in order.
pub record AreMoreParts (old new : List NamePart) : Type 0 where
  pub begin : BeginsWith new old
  pub once : AreOnce old → AreOnce new
  pub order : AreAfterTails old → AreAfterTails new

-- Parts of borrowed bytes.
abbrev pub parts_of_slices : List (ℕ × Bor (List ℕ)) → List NamePart
parts_of_slices parts = map (λ part. (part.0, part.1.now)) parts

-- The parts that the fields hold.
abbrev pub name_parts_of : Inside → List NamePart
name_parts_of inside = map (λ part. (part.0, part.1.now)) inside.parts.items

-- What is true of the fields: there are maps, and they have the number of each part and no other.
pub record AreNameParts (inside : Inside) : Type 0 where
  pub maps : 0 < bucket_count inside.numbers
  pub found : (part : ℕ × Bor (List ℕ)) (number : ℕ) → number_in inside.numbers part ≡ Some number
      → slice_get (name_parts_of inside) number ≡ Some (part.0, part.1.now)
  pub listed : (part : ℕ × Bor (List ℕ)) (number : ℕ)
      → slice_get (name_parts_of inside) number ≡ Some (part.0, part.1.now)
      → number_in inside.numbers part ≡ Some number
