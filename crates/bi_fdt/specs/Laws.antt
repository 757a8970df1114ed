use Rattle.std.specs.Prelude.{◌≡◌, ◌↔◌, ℕ, List, Some, slice_get}
use Rattle.bi_blob.specs.Tree.{FileProperty, AreDistinct}
use Rattle.bi_fdt.specs.Numbers.{AreNumbered, names_of_table}
use Rattle.bi_fdt.specs.TableItems.{TableItem, PropertyItem}

-- Laws about the names of the properties of a table.

-- Two properties of a table have the same number if and only if their names are equal.
abbrev pub NumbersAreOfNames : Type 0
NumbersAreOfNames =
    (table : List TableItem) (numbers : List ℕ) (at other_at number other_number : ℕ)
    (property other : FileProperty) → AreNumbered (names_of_table table) table numbers
    → slice_get table at ≡ Some (PropertyItem property) → slice_get numbers at ≡ Some number
    → slice_get table other_at ≡ Some (PropertyItem other)
    → slice_get numbers other_at ≡ Some other_number
    → ((number ≡ other_number) ↔ (property.name ≡ other.name))

-- The names of the properties of a table are distinct.
abbrev pub NamesAreDistinct : Type 0
NamesAreDistinct = (table : List TableItem) → AreDistinct (names_of_table table)
