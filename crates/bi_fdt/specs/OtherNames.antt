use Rattle.std.specs.Prelude.{◌≡◌, ℕ, ◌+◌, ◌-◌, ◌≤◌, List, length, Option, None, Some, slice_get}
use Rattle.std.specs.Prelude.{MatchOption}
use Rattle.bi_fdt.specs.NameParts.{NamePart, FindsPart}
use Rattle.bi_fdt.specs.NameTails.{AreBlocksNumbered}

-- The numbers that the parts of some names have among the parts of others.

-- Some last blocks of a name have this number among parts, or none.
abbrev pub FindsBlocks : List NamePart → ℕ → List ℕ → Option ℕ → Type 0
FindsBlocks parts count name found =
    MatchOption found ((number : ℕ) → ¬ (AreBlocksNumbered parts count number name))
    (λ number. AreBlocksNumbered parts count number name)

-- The blocks that have a number among parts have this number among others, or none.
abbrev pub HasOtherNumber : (parts others : List NamePart) → ℕ → Option ℕ → Type 0
HasOtherNumber parts others number found = (count : ℕ) (name : List ℕ)
    → AreBlocksNumbered parts count number name → FindsBlocks others count name found

-- These are the numbers among others of no blocks, and of the blocks from each part on.
pub record AreOtherNumbers (parts others : List NamePart) (numbers : List (Option ℕ)) : Type 0
  where
    pub count : length numbers ≡ length parts + 1
    pub each : (number : ℕ) (found : Option ℕ) → slice_get numbers number ≡ Some found
        → HasOtherNumber parts others number found

-- A part is found at this index, if the blocks after it have a number.
abbrev pub FindsAfter : List NamePart → Option ℕ → List ℕ → Option ℕ → Type 0
FindsAfter parts tail bytes found =
    MatchOption tail (found ≡ None) (λ tail. FindsPart parts (tail, bytes) found)

-- The blocks from a part on have this number: it is 1 more than the index of the part.
abbrev pub FindsTail : List NamePart → Option ℕ → List ℕ → Option ℕ → Type 0
FindsTail parts tail bytes found = MatchOption found (FindsAfter parts tail bytes None)
    (λ number. (1 ≤ number) × FindsAfter parts tail bytes (Some (number - 1)))

-- These are the indices of parts among others, if the blocks after them have these numbers there.
pub record AreFoundAmong (parts others : List NamePart) (tails found : List (Option ℕ)) : Type 0
  where
    pub count : length found ≡ length parts
    pub each : (index : ℕ) (part : NamePart) (tail number : Option ℕ)
        → slice_get parts index ≡ Some part → slice_get tails part.0 ≡ Some tail
        → slice_get found index ≡ Some number → FindsAfter others tail part.1 number

-- These are the numbers of so many names among themselves: of each its index.
pub record AreOwnNumbers (names : ℕ) (numbers : List (Option ℕ)) : Type 0
  where
    pub count : length numbers ≡ names
    pub each : (index : ℕ) (found : Option ℕ) → slice_get numbers index ≡ Some found
        → found ≡ Some index
