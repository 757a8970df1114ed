use Rattle.std.specs.Prelude.{◌≡◌, ⊤, ℕ, List, [], ◌∷◌, ◌++◌, Option, Some, slice_get}
use Rattle.std.specs.Prelude.{if◌then◌else◌, MatchOption}
use Rattle.std.specs.List.{AllZip}
use Rattle.bi_blob.specs.Layout.{is_among}
use Rattle.bi_blob.specs.Tree.{FileProperty, IsNew}
use Rattle.bi_fdt.specs.TableItems.{TableItem, NodeItem, PropertyItem}

-- The numbers of the names of properties, by which names are compared without reading them. The
-- number of a name is its index in a list that has each name once.

-- The names after one more use: a name that was not used before comes last.
abbrev pub with_used_name : List (List ℕ) → List ℕ → List (List ℕ)
with_used_name used name = if is_among name used then used else used ++ name ∷ []

-- The names after their use by the properties of a table.
abbrev pub names_after : List (List ℕ) → List TableItem → List (List ℕ)
names_after used [] = used
names_after used (NodeItem depth place name ∷ later) = names_after used later
names_after used (PropertyItem property ∷ later) =
    names_after (with_used_name used property.name) later

-- The names of the properties of a table, each once, in the order of their first use.
abbrev pub names_of_table : List TableItem → List (List ℕ)
names_of_table table = names_after [] table

-- A name has this number.
abbrev pub IsNumberOf : List (List ℕ) → List ℕ → ℕ → Type 0
IsNumberOf names name number = slice_get names number ≡ Some name

-- A name has this number if it is among some names, and none if it is not.
abbrev pub FindsNumber : List (List ℕ) → List ℕ → Option ℕ → Type 0
FindsNumber names name found = MatchOption found (IsNew name names) (IsNumberOf names name)

-- A property has the name with this number.
abbrev pub HasNumber : List (List ℕ) → FileProperty → ℕ → Type 0
HasNumber names property number = IsNumberOf names property.name number

-- If an item of a table is a property, it has the name with this number.
abbrev pub IsNumbered : List (List ℕ) → TableItem → ℕ → Type 0
IsNumbered names (NodeItem depth place name) number = ⊤
IsNumbered names (PropertyItem property) number = HasNumber names property number

-- The properties of a table have the names with these numbers. Each item of the table has a number.
abbrev pub AreNumbered : List (List ℕ) → List TableItem → List ℕ → Type 0
AreNumbered names table numbers = AllZip (IsNumbered names) table numbers

-- A list begins with another. Names keep their numbers when names are added at the end.
abbrev pub BeginsWith : {Item : Type 0} → List Item → List Item → Type 0
BeginsWith {Item} all front = (rest : List Item) × (all ≡ front ++ rest)
