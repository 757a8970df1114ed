use Rattle.std.proofs.Common.{◌≡◌, ◌≢◌, ℕ, suc, ◌<◌, Bool, true, false, List, [], ◌∷◌, ◌++◌, Some, length, bytes_eq, refl, sym, ap, arith}
use Rattle.std.proofs.Common.{Bor}
use Rattle.bi_base.specs.Slices.{bytes_of}
use Rattle.bi_base.proofs.EqualBytes.{same_bytes, other_bytes}
use Rattle.bi_blob.specs.Tree.{AreDistinct, IsNew}
use Rattle.bi_fdt.specs.Numbers.{IsNumberOf}
use Rattle.bi_tree.specs.TreeNodes.{index_named}

-- The number of a name, which is added if it is new.

-- The index that a search gives is that of the name, if one of the names is it,
abbrev IsFound : List ℕ → List (List ℕ) → Type 0
IsFound name names = index_named name names < length names → IsNumberOf names name (index_named name names)

found_first : (name first : List ℕ) (later : List (List ℕ)) → IsFound name later → (b : Bool) → bytes_eq first name ≡ b →
    IsFound name (first ∷ later)
found_first name first later rest true same within = rw same (ap Some (same_bytes first name same))
found_first name first later rest false differs within =
    let less = rw differs at within in rw differs (rest (omega (arith, less)))

pub found_number : (name : List ℕ) (names : List (List ℕ)) → IsFound name names
found_number name [] within = absurd (omega (arith, within))
found_number name (first ∷ later) within = found_first name first later (found_number name later) (bytes_eq first name) refl within

-- and their number if none is.
abbrev IsNewThen : List ℕ → List (List ℕ) → Type 0
IsNewThen name names = index_named name names ≡ length names → IsNew name names

new_first : (name first : List ℕ) (later : List (List ℕ)) → IsNewThen name later → (b : Bool) → bytes_eq first name ≡ b →
    IsNewThen name (first ∷ later)
new_first name first later rest true same none = let no = rw same at none in absurd (omega (arith, no))
new_first name first later rest false differs none =
    let more = rw differs at none in (other_bytes first name differs, rest (omega (arith, more)))

pub name_not_found : (name : List ℕ) (names : List (List ℕ)) → IsNewThen name names
name_not_found name [] none = tt
name_not_found name (first ∷ later) none = new_first name first later (name_not_found name later) (bytes_eq first name) refl none

-- A name that is added has their number,
pub added_number : (name : List ℕ) (names : List (List ℕ)) → IsNumberOf (names ++ name ∷ []) name (length names)
added_number name [] = refl
added_number name (first ∷ later) = added_number name later

-- and the names stay distinct, if it is new.
new_among : (name other : List ℕ) (names : List (List ℕ)) → name ≢ other → IsNew other names → IsNew other (names ++ name ∷ [])
new_among name other [] differs new = (differs, tt)
new_among name other (first ∷ later) differs new = (new.0, new_among name other later differs new.1)

pub distinct_with_new : (name : List ℕ) (names : List (List ℕ)) → IsNew name names → AreDistinct names → AreDistinct (names ++ name ∷ [])
distinct_with_new name [] new distinct = (tt, tt)
distinct_with_new name (first ∷ later) new distinct =
    (new_among name first later (λ is. new.0 (sym is)) distinct.0, distinct_with_new name later new.1 distinct.1)

-- The same, by the slices that hold the names.
pub bytes_with : (names : List (Bor (List ℕ))) (name : Bor (List ℕ)) → bytes_of (names ++ name ∷ []) ≡ bytes_of names ++ name.now ∷ []
bytes_with [] name = refl
bytes_with (first ∷ later) name = ap (λ l. first.now ∷ l) (bytes_with later name)

pub length-bytes : (names : List (Bor (List ℕ))) → length (bytes_of names) ≡ length names
length-bytes [] = refl
length-bytes (first ∷ later) = ap suc (length-bytes later)
