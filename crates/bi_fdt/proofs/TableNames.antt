use Rattle.std.proofs.Common.{◌≡◌, ℕ, zero, suc, List, [], ◌∷◌, ◌++◌, map, drop, length, ◌+◌, ◌≤◌, arith, refl, sym, ap, subst, ◌∙◌, Bool}
use Rattle.std.proofs.Common.{true, false, rules}
use Rattle.std.specs.Prelude.{if◌then◌else◌}
use Rattle.std.proofs.Math.ListN.{set}
use Rattle.std.proofs.lemmas.List.{map-append, append-nil, length-append, length-map}
use Rattle.std.proofs.lemmas.Option.{slice_get_within}
use Rattle.bi_blob.specs.Layout.{is_among}
use Rattle.bi_fdt.specs.declared.table.Entry.{Entry}
use Rattle.bi_fdt.specs.declared.table.Entry.TheVariants as entry
use Rattle.bi_fdt.specs.declared.table.NodeEntry.{NodeEntry}
use Rattle.bi_fdt.specs.declared.table.PropertyEntry.{PropertyEntry}
use Rattle.bi_fdt.specs.Numbers.{IsNumberOf, IsNumbered, AreNumbered, BeginsWith, with_used_name, names_after, names_of_table}
use Rattle.bi_fdt.specs.Table.{item_in, property_in}
use Rattle.bi_fdt.specs.TableItems.{TableItem, NodeItem, PropertyItem}
use Rattle.bi_fdt.specs.TableNames.{name_number_of, AreTableNames}
use Rattle.bi_fdt.proofs.Links.{items-set}
use Rattle.bi_fdt.proofs.NumberedNames.{AllZip-append, AreNumbered-more}

-- The names of the properties of a table that grows.

-- The names after a table with one more item.
names-item : (used : List (List ℕ)) (table : List TableItem) (item : TableItem) →
    names_after used (table ++ item ∷ []) ≡ names_after (names_after used table) (item ∷ [])
names-item used [] item = refl
names-item used (NodeItem depth place name ∷ table) item = names-item used table item
names-item used (PropertyItem property ∷ table) item = names-item (with_used_name used property.name) table item

-- The names after one more use begin with those before.
with_used_name-begins : (used : List (List ℕ)) (name : List ℕ) → BeginsWith (with_used_name used name) used
with_used_name-begins used name = by (is_among name used) refl
  where
    by : (b : Bool) → is_among name used ≡ b → BeginsWith (with_used_name used name) used
    by true old = ([], ap (λ b. if b then used else used ++ name ∷ []) old ∙ sym (append-nil used))
    by false new = (name ∷ [], ap (λ b. if b then used else used ++ name ∷ []) new)

-- There are at most as many names as items.
with_used_name-few : (used : List (List ℕ)) (name : List ℕ) → length (with_used_name used name) ≤ length used + 1
with_used_name-few used name = search (rules, length-append)

names-few : (used : List (List ℕ)) (table : List TableItem) → length (names_after used table) ≤ length used + length table
names-few used [] = omega arith
names-few used (NodeItem depth place name ∷ table) = omega (arith, names-few used table)
names-few used (PropertyItem property ∷ table) = search (rules, with_used_name-few, names-few (with_used_name used property.name) table)

pub table_names-few : (file : List ℕ) (entries : List Entry) (used : List (List ℕ)) → AreTableNames file entries used →
    length used ≤ length entries
table_names-few file entries used are = search (rules, names-few, length-map)

-- So a number fits.
pub number_few : (file : List ℕ) (entries : List Entry) (used more : List (List ℕ)) (name : List ℕ) (number : ℕ) →
    AreTableNames file entries used →
    more ≡ with_used_name used name → IsNumberOf more name number → number ≤ length entries
number_few file entries used more name number are is has =
    omega (arith, slice_get_within more number name has, ap length is, with_used_name-few used name, table_names-few file entries used are)

-- One more node.
pub table_names-node : (file : List ℕ) (entries : List Entry) (used : List (List ℕ)) (n : NodeEntry) → AreTableNames file entries used →
    AreTableNames file (entries ++ entry.Node n ∷ []) used
table_names-node file entries used n are = search (rules, names-item, map-append, AllZip-append)

-- One more property.
pub table_names-property : (file : List ℕ) (entries : List Entry) (used more : List (List ℕ)) (p : PropertyEntry) (k : ℕ) →
    AreTableNames file entries used →
    more ≡ with_used_name used (property_in file p).name → IsNumberOf more (property_in file p).name k →
    AreTableNames file (entries ++ entry.Property p k ∷ []) more
table_names-property file entries used more p k are is has = record {
  names = is ∙ ap (λ l. with_used_name l (property_in file p).name) are.names
      ∙ sym (names-item [] (map (item_in file) entries) (item_in file (entry.Property p k)))
      ∙ ap names_of_table (sym (map-append (item_in file) entries (entry.Property p k ∷ [])));
  numbered = subst (λ items. AreNumbered more items (map name_number_of (entries ++ entry.Property p k ∷ [])))
      (sym (map-append (item_in file) entries (entry.Property p k ∷ [])))
      (subst (AreNumbered more (map (item_in file) entries ++ item_in file (entry.Property p k) ∷ []))
      (sym (map-append name_number_of entries (entry.Property p k ∷ [])))
      (AllZip-append (IsNumbered more) (map (item_in file) entries) (map name_number_of entries) _ _
      (AreNumbered-more more used (subst (λ l. BeginsWith l used) (sym is) (with_used_name-begins used (property_in file p).name))
      (map (item_in file) entries) (map name_number_of entries) are.numbered)
      (has, tt)));
}

-- Other numbers in the entry of a node.
numbers-set : (entries later : List Entry) (index : ℕ) (n m : NodeEntry) → drop index entries ≡ entry.Node n ∷ later →
    map name_number_of (set entries index (entry.Node m)) ≡ map name_number_of entries
numbers-set [] later zero n m at = absurd cc
numbers-set [] later (suc index) n m at = absurd cc
numbers-set (e ∷ entries) later zero n m at = search rules
numbers-set (e ∷ entries) later (suc index) n m at = ap (λ l. name_number_of e ∷ l) (numbers-set entries later index n m at)

pub table_names-set : (file : List ℕ) (entries later : List Entry) (used : List (List ℕ)) (index : ℕ) (n m : NodeEntry) →
    drop index entries ≡ entry.Node n ∷ later → item_in file (entry.Node m) ≡ item_in file (entry.Node n) →
    AreTableNames file entries used →
    AreTableNames file (set entries index (entry.Node m)) used
table_names-set file entries later used index n m at same are = search (rules, set, items-set, numbers-set)

-- The numbers of the entries of a table.
pub numbers_of_table : (file : List ℕ) (entries : List Entry) (used : List (List ℕ)) (numbers : List ℕ) →
    AreTableNames file entries used →
    numbers ≡ map name_number_of entries → AreNumbered (names_of_table (map (item_in file) entries)) (map (item_in file) entries) numbers
numbers_of_table file entries used numbers are is =
    subst (AreNumbered (names_of_table (map (item_in file) entries)) (map (item_in file) entries)) (sym is)
    (subst (λ names. AreNumbered names (map (item_in file) entries) (map name_number_of entries)) are.names are.numbered)
