use Rattle.std.proofs.Common.{◌≡◌, ℕ, zero, suc, ◌+◌, List, [], ◌∷◌, length, map, drop, take, Some, slice_get, slice_index, sym, ap, subst}
use Rattle.std.proofs.Common.{◌∙◌, arith}
use Rattle.std.specs.List.{AllZip}
use Rattle.std.proofs.lemmas.Option.{none-some}
use Rattle.bi_fdt.specs.declared.table.NodeEntry.{NodeEntry}
use Rattle.bi_fdt.specs.TableItems.{TableItem, NodeItem, PropertyItem, first_properties}
use Rattle.bi_fdt.specs.Content.{first_sibling}
use Rattle.bi_fdt.specs.Fields.{IsNodeOf}
use Rattle.bi_fdt.specs.Numbers.{HasNumber, IsNumberOf, AreNumbered}
use Rattle.bi_fdt.proofs.NodeViews.{after_node}

-- The numbers of the names of a node's properties are those that its table has for them.

-- The numbers of the items from an index on.
numbered_from : (names : List (List ℕ)) (index : ℕ) (items : List TableItem) (numbers : List ℕ) → AreNumbered names items numbers →
    AreNumbered names (drop index items) (drop index numbers)
numbered_from names zero items numbers are = are
numbered_from names (suc index) [] [] are = are
numbered_from names (suc index) [] (number ∷ numbers) are = elim are [ ]
numbered_from names (suc index) (item ∷ items) [] are = elim are [ ]
numbered_from names (suc index) (item ∷ items) (number ∷ numbers) are = numbered_from names index items numbers are.1

-- The numbers of the properties that items begin with.
numbered_first : (names : List (List ℕ)) (items : List TableItem) (numbers : List ℕ) → AreNumbered names items numbers →
    AllZip (HasNumber names) (first_properties items) (take (length (first_properties items)) numbers)
numbered_first names [] numbers are = tt
numbered_first names (NodeItem depth place name ∷ items) numbers are = tt
numbered_first names (PropertyItem property ∷ items) [] are = elim are [ ]
numbered_first names (PropertyItem property ∷ items) (number ∷ numbers) are = (are.0, numbered_first names items numbers are.1)

-- The numbers of the properties of the node at an index of a table.
pub numbers_there : (file : List ℕ) (table : List TableItem) (index : ℕ) (n : NodeEntry) (there : IsNodeOf file table index n)
    (names : List (List ℕ)) (numbers : List ℕ) →
    AreNumbered names table numbers →
    AllZip (HasNumber names) (first_sibling (drop index table)).own.properties (take n.property_count (drop (index + 1) numbers))
numbers_there file table index n there names numbers are =
    subst (λ properties. AllZip (HasNumber names) properties (take n.property_count (drop (index + 1) numbers)))
    (sym (ap (λ items. (first_sibling items).own.properties) there.is_at))
    (subst (λ k. AllZip (HasNumber names) (first_properties there.later) (take k (drop (index + 1) numbers))) (sym there.linked.count)
    (numbered_first names there.later (drop (index + 1) numbers)
    (subst (λ items. AreNumbered names items (drop (index + 1) numbers))
    (ap (λ k. drop k table) (omega arith) ∙ after_node file table index n there 0)
    (numbered_from names (index + 1) table numbers are))))

-- ---- numbers by another list

-- The key at the number of a name is its number by the other list.
picked_number : (others names : List (List ℕ)) (keys : List ℕ) (number : ℕ) (name : List ℕ) → AllZip (IsNumberOf others) names keys →
    slice_get names number ≡ Some name → IsNumberOf others name (slice_index keys number)
picked_number others [] keys number name are is = absurd (none-some _ is)
picked_number others (first ∷ names) [] number name are is = elim are [ ]
picked_number others (first ∷ names) (key ∷ keys) zero name are is = are.0 ∙ is
picked_number others (first ∷ names) (key ∷ keys) (suc number) name are is = picked_number others names keys number name are.1 is

-- The keys at the numbers of properties are their numbers by the other list.
pub picked_numbers : (others names : List (List ℕ)) (keys : List ℕ) → AllZip (IsNumberOf others) names keys →
    (table : List TableItem) (numbers : List ℕ) → AreNumbered names table numbers →
    AreNumbered others table (map (slice_index keys) numbers)
picked_numbers others names keys keyed [] [] are = tt
picked_numbers others names keys keyed [] (number ∷ numbers) are = elim are [ ]
picked_numbers others names keys keyed (item ∷ table) [] are = elim are [ ]
picked_numbers others names keys keyed (NodeItem depth place name ∷ table) (number ∷ numbers) are =
    (tt, picked_numbers others names keys keyed table numbers are.1)
picked_numbers others names keys keyed (PropertyItem property ∷ table) (number ∷ numbers) are =
    (picked_number others names keys number property.name keyed are.0, picked_numbers others names keys keyed table numbers are.1)
