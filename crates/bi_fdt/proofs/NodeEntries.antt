use Rattle.std.proofs.Common.{◌≡◌, ℕ, zero, suc, ◌+◌, ◌-◌, ◌<◌, ◌≤◌, List, [], ◌∷◌, length, map, drop, take, get_or, Some, None, slice_get}
use Rattle.std.proofs.Common.{refl, sym, ap, subst, ◌∙◌, inl, inr, arith, rules}
use Rattle.std.specs.Prelude.{IsTrue}
use Rattle.std.proofs.Math.Seq.{drop-cons}
use Rattle.std.proofs.lemmas.Bool.{false≢true, cases_lt}
use Rattle.std.proofs.lemmas.List.{drop-map, drop-drop}
use Rattle.bi_blob.specs.Tree.{FileProperty}
use Rattle.bi_blob.specs.Events.{FileEvent, FileNodeStart, FileNodeProperty, FileNodeEnd}
use Rattle.bi_fdt.specs.declared.table.Entry.{Entry}
use Rattle.bi_fdt.specs.declared.table.Entry.TheVariants as entry
use Rattle.bi_fdt.specs.declared.table.NodeEntry.{NodeEntry}
use Rattle.bi_fdt.specs.declared.table.PropertyEntry.{PropertyEntry}
use Rattle.bi_fdt.specs.Table.{node_name_in, item_in, IsLinked}
use Rattle.bi_fdt.specs.TableItems.{TableItem, NodeItem, PropertyItem, first_properties, nodes_of, items_of, count_inside}
use Rattle.bi_fdt.specs.Table.{AreLinked}
use Rattle.bi_fdt.specs.Content.{begins_with_node}
use Rattle.bi_fdt.specs.Fields.{IsNodeOf}
use Rattle.bi_fdt.proofs.TableTrees.{nodes-deeper}
use Rattle.bi_fdt.proofs.Items.{inside-deeper, inside-stops}

-- The node entry at an index of a table is that of a node, and the items inside a node make no difference to the nodes at its depth.

-- An entry, and those after it.
pub entry_here : (entries : List Entry) (index : ℕ) (e d : Entry) → index < length entries → get_or entries index d ≡ e →
    drop index entries ≡ e ∷ drop (suc index) entries
entry_here entries index e d within is = drop-cons entries index d within ∙ ap (λ x. x ∷ drop (suc index) entries) is

pub items_here : (file : List ℕ) (entries : List Entry) (index : ℕ) (e d : Entry) → index < length entries → get_or entries index d ≡ e →
    drop index (map (item_in file) entries) ≡ item_in file e ∷ map (item_in file) (drop (suc index) entries)
items_here file entries index e d within is = search (rules, drop-map, entry_here)

-- A property is not a node.
pub no_property : (file : List ℕ) (entries : List Entry) (table : List TableItem) (index : ℕ) (p : PropertyEntry) (k : ℕ) (d : Entry) →
    map (item_in file) entries ≡ table →
    IsTrue (begins_with_node (drop index table)) → index < length entries → get_or entries index d ≡ entry.Property p k → ⊥
no_property file entries table index p k d same is_node within is =
    false≢true (sym (ap begins_with_node
    (ap (drop index) (sym same) ∙ items_here file entries index (entry.Property p k) d within is)) ∙ is_node)

-- The numbers of one entry of a table fit.
pub linked_at : (file : List ℕ) (at : ℕ) (entries later : List Entry) (index : ℕ) (n : NodeEntry) → AreLinked file 0 at entries →
    drop index entries ≡ entry.Node n ∷ later → IsLinked 0 (at + index) n (map (item_in file) later)
linked_at file at [] later zero n linked here = absurd cc
linked_at file at [] later (suc index) n linked here = absurd cc
linked_at file at (e ∷ entries) later zero n linked here = search rules
linked_at file at (entry.Property p k ∷ entries) later (suc index) n linked here =
    subst (λ k. IsLinked 0 k n (map (item_in file) later)) (omega arith) (linked_at file (at + 1) entries later index n linked here)
linked_at file at (entry.Node m ∷ entries) later (suc index) n linked here =
    subst (λ k. IsLinked 0 k n (map (item_in file) later)) (omega arith) (linked_at file (at + 1) entries later index n linked.1 here)

-- After the node that begins at an index come the items of events, one deeper.
pub record AreBelow (depth : ℕ) (items : List TableItem) : Type 0 where
  pub events : List FileEvent
  pub is : items ≡ items_of (depth + 1) events

pub items_below : (first : ℕ) (es : List FileEvent) (index depth place : ℕ) (name : List ℕ) (later : List TableItem) →
    drop index (items_of first es) ≡ NodeItem depth place name ∷ later → AreBelow depth later
items_below first [] zero depth place name later at = absurd cc
items_below first [] (suc index) depth place name later at = absurd cc
items_below first (FileNodeStart other_place other_name ∷ es) zero depth place name later at = search rules
items_below first (FileNodeStart other_place other_name ∷ es) (suc index) depth place name later at = items_below
    (first + 1) es index depth place name later at
items_below first (FileNodeProperty property ∷ es) zero depth place name later at = absurd cc
items_below first (FileNodeProperty property ∷ es)
    (suc index) depth place name later at = items_below first es index depth place name later at
items_below first (FileNodeEnd ∷ es) index depth place name later at = items_below (first - 1) es index depth place name later at

-- The first node after properties is no deeper than where the events begin.
pub first_depth : (depth : ℕ) (es : List FileEvent) (own place : ℕ) (name : List ℕ) (rest : List TableItem) →
    drop (length (first_properties (items_of depth es))) (items_of depth es) ≡ NodeItem own place name ∷ rest → own ≤ depth
first_depth depth [] own place name rest at = absurd cc
first_depth depth (FileNodeStart other_place other_name ∷ es) own place name rest at = search rules
first_depth depth (FileNodeProperty property ∷ es) own place name rest at = first_depth depth es own place name rest at
first_depth depth (FileNodeEnd ∷ es) own place name rest at =
    let least : own ≤ depth - 1 = first_depth (depth - 1) es own place name rest at in omega arith

-- After their first properties items are none or begin with a node.
pub first_rest : (items : List TableItem) (p : FileProperty) (rest : List TableItem) →
    drop (length (first_properties items)) items ≡ PropertyItem p ∷ rest → ⊥
first_rest [] p rest at = cc
first_rest (PropertyItem q ∷ items) p rest at = first_rest items p rest at
first_rest (NodeItem own place name ∷ items) p rest at = cc

-- The first properties make no difference to the nodes.
pub nodes-past_properties : (depth : ℕ) (items : List TableItem) →
    nodes_of depth items ≡ nodes_of depth (drop (length (first_properties items)) items)
nodes-past_properties depth [] = refl
nodes-past_properties depth (PropertyItem p ∷ items) = nodes-past_properties depth items
nodes-past_properties depth (NodeItem own place name ∷ items) = refl

pub inside-past_properties : (depth : ℕ) (items : List TableItem) →
    count_inside depth items ≡ length (first_properties items) + count_inside depth (drop (length (first_properties items)) items)
inside-past_properties depth [] = refl
inside-past_properties depth (PropertyItem p ∷ items) = search (rules, inside-past_properties depth items)
inside-past_properties depth (NodeItem own place name ∷ items) = omega arith

-- What is inside makes no difference to the nodes at a depth.
pub nodes-past_inside : (depth : ℕ) (items : List TableItem) →
    nodes_of depth items ≡ nodes_of depth (drop (count_inside depth items) items)
nodes-past_inside depth [] = refl
nodes-past_inside depth (PropertyItem p ∷ items) = search (rules, nodes-past_inside depth items)
nodes-past_inside depth (NodeItem own place name ∷ items) = elim (cases_lt depth own) [
  | inl deeper ↦ (nodes-deeper depth own place name items deeper ∙ nodes-past_inside depth items
      ∙ ap (λ n. nodes_of depth (drop n (NodeItem own place name ∷ items)))
      (one_more (count_inside depth items) ∙ sym (inside-deeper depth own place name items deeper)))
  | inr stops ↦ ap (λ n. nodes_of depth (drop n (NodeItem own place name ∷ items))) (sym (inside-stops depth own place name items stops))
] where
  one_more : (n : ℕ) → suc n ≡ n + 1
  one_more n = omega arith

-- What comes after it is a node no deeper, if anything.
pub after_inside : (depth : ℕ) (items rest : List TableItem) (item : TableItem) → drop (count_inside depth items) items ≡ item ∷ rest →
    (own : ℕ) × (place : ℕ) × (name : List ℕ) × (item ≡ NodeItem own place name) × (own ≤ depth)
after_inside depth [] rest item at = absurd cc
after_inside depth (PropertyItem p ∷ items) rest item at = search (rules, after_inside depth items rest item)
after_inside depth (NodeItem own place name ∷ items) rest item at = elim (cases_lt depth own) [
  | inl deeper ↦ after_inside depth items rest item
      (ap (λ n. drop n (NodeItem own place name ∷ items))
      (one_more (count_inside depth items) ∙ sym (inside-deeper depth own place name items deeper)) ∙ at)
  | inr stops ↦ (
    own,
    place,
    name,
    first (ap (λ n. drop n (NodeItem own place name ∷ items)) (sym (inside-stops depth own place name items stops)) ∙ at),
    stops,
  )
] where
  one_more : (n : ℕ) → suc n ≡ n + 1
  one_more n = omega arith

  first : {a b : TableItem} {u v : List TableItem} → a ∷ u ≡ b ∷ v → b ≡ a
  first e = cc

-- Where items have a node at an index, the entries go that far.
pub node_within : (file : List ℕ) (entries : List Entry) (table : List TableItem) (index : ℕ) → map (item_in file) entries ≡ table →
    IsTrue (begins_with_node (drop index table)) → index < length entries
node_within file entries table index same is_node =
    by_entries entries index (subst (λ t. IsTrue (begins_with_node (drop index t))) (sym same) is_node) where
      by_entries : (es : List Entry) (i : ℕ) → IsTrue (begins_with_node (drop i (map (item_in file) es))) → i < length es
      by_entries [] zero is = absurd (false≢true is)
      by_entries [] (suc i) is = absurd (false≢true is)
      by_entries (e ∷ es) zero is = omega arith
      by_entries (e ∷ es) (suc i) is = let rest : i < length es = by_entries es i is in omega arith

-- The entry of a node in a table.
pub node_of_table : (file : List ℕ) (entries : List Entry) (table : List TableItem) (es : List FileEvent) (index : ℕ)
    (n : NodeEntry) (d : Entry) → map (item_in file) entries ≡ table → map (item_in file) entries ≡ items_of 0 es →
    AreLinked file 0 0 entries → IsTrue (begins_with_node (drop index table)) → get_or entries index d ≡ entry.Node n →
    IsNodeOf file table index n
node_of_table file entries table es index n d same events linked is_node is =
    let within : index < length entries = node_within file entries table index same is_node in
    let later : List Entry = drop (suc index) entries in
    let here : drop index entries ≡ entry.Node n ∷ later = entry_here entries index (entry.Node n) d within is in
    let at : drop index table ≡ NodeItem n.depth n.place (node_name_in file n) ∷ map (item_in file) later =
    ap (drop index) (sym same) ∙ items_here file entries index (entry.Node n) d within is in
    let below : AreBelow n.depth (map (item_in file) later) =
    items_below 0 es index n.depth n.place (node_name_in file n) (map (item_in file) later) (ap (drop index) (sym events ∙ same) ∙ at) in
    record {
      later = map (item_in file) later;
      is_at = at;
      linked = subst (λ k. IsLinked 0 k n (map (item_in file) later)) (omega arith) (linked_at file 0 entries later index n linked here);
      below = (below.events, below.is);
    }

-- Where a list goes on after an index, the next goes on there.
pub drop-next : {X : Type 0} (xs later : List X) (index more : ℕ) (x : X) → drop index xs ≡ x ∷ later →
    drop (index + 1 + more) xs ≡ drop more later
drop-next xs later index more x at =
    ap (λ n. drop n xs) (turned index more) ∙ sym (drop-drop (suc more) index xs) ∙ ap (drop (suc more)) at where
      turned : (i m : ℕ) → i + 1 + m ≡ i + suc m
      turned i m = omega arith

-- No more first properties than items.
pub first_most : (items : List TableItem) → length (first_properties items) ≤ length items
first_most [] = omega arith
first_most (PropertyItem p ∷ items) = let rest : length (first_properties items) ≤ length items = first_most items in omega arith
first_most (NodeItem own place name ∷ items) = omega arith

-- As many items as there are first properties have them all.
pub first_take : (items : List TableItem) → first_properties (take (length (first_properties items)) items) ≡ first_properties items
first_take [] = refl
first_take (PropertyItem p ∷ items) = ap (λ l. p ∷ l) (first_take items)
first_take (NodeItem own place name ∷ items) = refl

-- A first property at an index.
pub record IsFirstAt (items : List TableItem) (index : ℕ) : Type 0 where
  pub property : FileProperty
  pub rest : List TableItem
  pub is_at : drop index items ≡ PropertyItem property ∷ rest
  pub is_got : slice_get (first_properties items) index ≡ Some property

pub first_at : (items : List TableItem) (index : ℕ) → index < length (first_properties items) → IsFirstAt items index
first_at [] index within = absurd (omega arith)
first_at (PropertyItem p ∷ items) zero within = record { property = p; rest = items; is_at = refl; is_got = refl }
first_at (PropertyItem p ∷ items) (suc index) within = search (rules, first_at items index (omega arith))
first_at (NodeItem own place name ∷ items) index within = absurd (omega arith)

-- Nothing is got past the end, and what is got of changed elements is the changed element.
pub get_past : {X : Type 0} (xs : List X) (index : ℕ) → length xs ≤ index → slice_get xs index ≡ None
get_past [] index past = refl
get_past (x ∷ xs) zero past = absurd (omega arith)
get_past (x ∷ xs) (suc index) past = get_past xs index (omega arith)

pub get_map : {X Y : Type 0} (f : X → Y) (xs : List X) (index : ℕ) (x : X) → slice_get xs index ≡ Some x →
    slice_get (map f xs) index ≡ Some (f x)
get_map f [] index x got = absurd cc
get_map f (y ∷ xs) zero x got = let e : y ≡ x = cc in ap (λ z. Some (f z)) e
get_map f (y ∷ xs) (suc index) x got = get_map f xs index x got
