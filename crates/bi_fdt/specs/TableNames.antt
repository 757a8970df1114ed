use Rattle.std.specs.Prelude.{◌≡◌, ℕ, List, map}
use Rattle.bi_fdt.specs.declared.table.Entry.{Entry}
use Rattle.bi_fdt.specs.declared.table.Entry.TheVariants as entry
use Rattle.bi_fdt.specs.Numbers.{AreNumbered, names_of_table}
use Rattle.bi_fdt.specs.Table.{item_in}

-- The names of the properties of a table, and the numbers that its entries have.

-- The number of the name of a property, and 0 for a node.
abbrev pub name_number_of : Entry → ℕ
name_number_of (entry.Node node_entry) = 0
name_number_of (entry.Property property_entry number) = number

-- These are the names of the properties of a table, and its entries have their numbers.
pub record AreTableNames (file : List ℕ) (entries : List Entry) (used : List (List ℕ)) : Type 0
  where
    pub names : used ≡ names_of_table (map (item_in file) entries)
    pub numbered : AreNumbered used (map (item_in file) entries) (map name_number_of entries)
