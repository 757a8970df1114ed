use Rattle.std.proofs.Common.{◌≡◌, ℕ, ◌+◌, ◌-◌, List, [], ◌∷◌, Contains, refl, rules}
use Rattle.bi_base.proofs.ListMembers.{Contains-none, Contains-cases, Contains-first, Contains-others}
use Rattle.bi_blob.specs.Tree.{Root, FileNode, FileProperty}
use Rattle.bi_blob.specs.Events.{FileEvent, FileNodeStart, FileNodeProperty, FileNodeEnd, file_events_of}
use Rattle.bi_blob.proofs.Blobs.OpenNodes.{All-push}
use Rattle.bi_fdt.proofs.Items.{table_of}
use Rattle.bi_fdt.specs.TableItems.{TableItem, NodeItem, PropertyItem, items_of}
use Rattle.bi_fdt.specs.Numbers.{with_used_name, names_after, names_of_table}
use Rattle.bi_fdt.specs.TreeNames.{IsNameIn, AreNamesIn}

-- The name of a property in the table of a tree is that of a property of the tree, so that the names of the table's properties are names
-- in the tree.

-- A property among the items of events is among the events.
property_in_events : (depth : ℕ) (events : List FileEvent) (property : FileProperty) →
    Contains (items_of depth events) (PropertyItem property) → Contains events (FileNodeProperty property)
property_in_events depth [] property has = absurd (Contains-none (PropertyItem property) has)
property_in_events depth (FileNodeStart place name ∷ later) property has =
    search (rules, Contains-cases, Contains-others, property_in_events (depth + 1) later property)
property_in_events depth (FileNodeProperty first ∷ later) property has =
    search (rules, Contains-cases, Contains-first, Contains-others, property_in_events depth later property)
property_in_events depth (FileNodeEnd ∷ later) property has =
    Contains-others FileNodeEnd later (FileNodeProperty property) (property_in_events (depth - 1) later property has)

-- So its name is that of a property of the tree.
pub name_in_table : (root : Root FileNode) (property : FileProperty) → Contains (table_of root) (PropertyItem property) →
    IsNameIn property.name root
name_in_table root property has = (property, property_in_events 0 (file_events_of root) property has, refl)

-- The names of properties of the tree with one more.
with_used_name-in : (root : Root FileNode) (used : List (List ℕ)) (name : List ℕ) → AreNamesIn used root → IsNameIn name root →
    AreNamesIn (with_used_name used name) root
with_used_name-in root used name are is = search (rules, All-push)

-- The names of a table are those of properties of the tree.
names_after-in : (root : Root FileNode) (table : List TableItem) (used : List (List ℕ)) →
    ((property : FileProperty) → Contains table (PropertyItem property) → IsNameIn property.name root) →
    AreNamesIn used root → AreNamesIn (names_after used table) root
names_after-in root [] used each are = are
names_after-in root (NodeItem depth place name ∷ table) used each are =
    names_after-in root table used (λ property has. each property
    (Contains-others (NodeItem depth place name) table (PropertyItem property) has)) are
names_after-in root (PropertyItem first ∷ table) used each are =
    names_after-in root table (with_used_name used first.name)
    (λ property has. each property (Contains-others (PropertyItem first) table (PropertyItem property) has))
    (with_used_name-in root used first.name are (each first (Contains-first (PropertyItem first) table)))

pub table_names_in_tree : (root : Root FileNode) (table : List TableItem) → table ≡ table_of root → AreNamesIn (names_of_table table) root
table_names_in_tree root table is = search (rules, names_after-in, name_in_table)
