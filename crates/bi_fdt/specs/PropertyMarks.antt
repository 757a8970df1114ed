use Rattle.std.specs.Prelude.{◌≡◌, ℕ, ◌<◌, ◌↔◌, Bool, false, List, [], ◌∷◌, ◌++◌, ◌==◌}
use Rattle.std.specs.Prelude.{bytes_eq, if◌then◌else◌, Option, IfSome, IsSome}
use Rattle.std.specs.List.{AllByRecursion}
use Rattle.bi_blob.specs.Layout.{is_among}
use Rattle.bi_blob.specs.Tree.{IsNew}
use Rattle.bi_fdt.specs.Numbers.{IsNumberOf, with_used_name}

-- The names of the properties of a node, while the node is read. Each name that was used in the
-- blob has a mark: that of the last node that has a property with the name.

-- A strings block, the names in it that were used, and their marks.
pub record MarkedNames : Type 0 where
  pub strings : List ℕ
  pub used : List (List ℕ)
  pub marks : List ℕ

-- Whether a name has this mark.
abbrev pub has_mark : (used : List (List ℕ)) (marks : List ℕ) (mark : ℕ) (name : List ℕ) → Bool
has_mark [] marks mark name = false
has_mark (first ∷ later) [] mark name = false
has_mark (first ∷ later) (first_mark ∷ later_marks) mark name =
    if bytes_eq first name then first_mark == mark else has_mark later later_marks mark name

-- The node with this mark has properties with exactly these names.
abbrev pub HasMarked : MarkedNames → ℕ → List (List ℕ) → Type 0
HasMarked names mark held =
    (name : List ℕ) → is_among name held ≡ has_mark names.used names.marks mark name

-- All marks are less than this.
abbrev pub AreMarksBelow : ℕ → MarkedNames → Type 0
AreMarksBelow bound names = AllByRecursion (λ mark. mark < bound) names.marks

-- A name was added to those of the node with this mark. This is its number, or None if the node
-- already had the name.
pub record AddsName (old : MarkedNames) (name : List ℕ) (mark : ℕ) (number : Option ℕ)
    (new : MarkedNames) : Type 0 where
  pub is_number : IfSome number (IsNumberOf new.used name)
  pub used : new.used ≡ with_used_name old.used name
  pub is_new : (held : List (List ℕ)) → HasMarked old mark held → (IsSome number ↔ IsNew name held)
  pub marked : IsSome number → (held : List (List ℕ)) → HasMarked old mark held
      → HasMarked new mark (held ++ name ∷ [])
  pub marks : (bound : ℕ) → mark < bound → AreMarksBelow bound old → AreMarksBelow bound new
