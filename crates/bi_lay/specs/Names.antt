use Rattle.std.specs.Prelude.{◌≡◌, ℕ, ◌-◌, ◌^◌, min, Bool, List, [], ◌∷◌, ◌++◌, length}
use Rattle.std.specs.Prelude.{Option, Some, None, if◌then◌else◌, bytes_eq}
use Rattle.std.specs.Borrow.{Bor}
use Rattle.indexmap.specs.IndexMap.{get, keys}
use Rattle.bi_base.specs.Slices.{bytes_of}
use Rattle.bi_blob.specs.Layout.{is_among, offset_in, strings_of}
use Rattle.bi_lay.specs.declared.names.Names.TheInside.{Inside}

-- The names of properties that the strings block has (Devicetree Specification, 5.5), in the order
-- of their first use.

-- The names after one more use: a name that is not there yet comes last.
abbrev pub with_name : List (List ℕ) → List ℕ → List (List ℕ)
with_name names name = if is_among name names then names else names ++ name ∷ []

-- A number, or the greatest that a `usize` can be.
abbrev pub saturated_usize : ℕ → ℕ
saturated_usize n = min n (2 ^ 64 - 1)

-- The offset of a name among these, if it is there.
abbrev pub offset_among : List (List ℕ) → List ℕ → Option ℕ
offset_among names name =
    if is_among name names then Some (saturated_usize (offset_in names name)) else None

-- The names that the fields hold.
abbrev pub names_of : Inside → List (List ℕ)
names_of names = bytes_of (keys names.offsets)

-- Names are the same if their bytes are.
abbrev pub same_name : Bor (List ℕ) → Bor (List ℕ) → Bool
same_name name other = bytes_eq name.now other.now

-- What is true of the fields: the map has the offset of each name, and the length is that of the
-- strings block.
pub record AreNames (names : Inside) : Type 0 where
  pub placed : (name : Bor (List ℕ)) → get same_name names.offsets name
      ≡ offset_among (names_of names) name.now
  pub is_length : names.length ≡ saturated_usize (length (strings_of (names_of names)))
