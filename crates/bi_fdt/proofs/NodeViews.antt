use Rattle.std.proofs.Common.{◌≡◌, ℕ, zero, suc, ◌+◌, ◌<◌, ◌≤◌, false, List, [], ◌∷◌, length, map, drop, take, get_or, Some}
use Rattle.std.proofs.Common.{None, slice_get, refl, sym, ap, subst, ◌∙◌, inl, inr, arith, rules}
use Rattle.std.specs.Prelude.{IsTrue, bytes_eq}
use Rattle.std.specs.Map.{lookup}
use Rattle.std.proofs.lemmas.Bool.{cases_lt, cases_order}
use Rattle.std.proofs.lemmas.List.{drop-map, length-map, take-map}
use Rattle.bi_blob.specs.Tree.{Nodes, none, node, Root, FileProperty, FileNode, property_of}
use Rattle.std.specs.Option.{option_map}
use Rattle.bi_blob.specs.Lookups.{Sibling, siblings, root_node, node_at, value_named, property_named}
use Rattle.bi_fdt.specs.declared.table.Entry.{Entry}
use Rattle.bi_fdt.specs.declared.table.Entry.TheVariants as entry
use Rattle.bi_fdt.specs.declared.table.NodeEntry.{NodeEntry}
use Rattle.bi_fdt.specs.declared.table.PropertyEntry.{PropertyEntry}
use Rattle.bi_fdt.specs.Table.{property_in, item_in}
use Rattle.bi_fdt.specs.TableItems.{TableItem, NodeItem, PropertyItem, first_properties, nodes_of, count_inside}
use Rattle.bi_fdt.specs.Content.{begins_with_node, first_sibling}
use Rattle.bi_fdt.specs.Fields.{IsNodeOf}
use Rattle.bi_fdt.proofs.TableTrees.{nodes-same, nodes-above, nodes-deeper, nodes-table}
use Rattle.bi_fdt.proofs.Items.{table_of, inside-deeper, inside-stops}
use Rattle.bi_fdt.proofs.GrowingTables.{drop-within}
use Rattle.bi_fdt.proofs.NodeEntries.{IsFirstAt, first_at, items_here, drop-next, first_most, first_take, first_depth, first_rest}
use Rattle.bi_fdt.proofs.NodeEntries.{nodes-past_properties, inside-past_properties, nodes-past_inside, after_inside}

-- The properties, the first child and the next sibling of a node are where its entry gives them, and a look-up finds the first node of a
-- name.

module _ (file : List ℕ) (table : List TableItem) (index : ℕ) (n : NodeEntry) (there : IsNodeOf file table index n) where
  -- Its properties are within the table.
  pub properties_within : index + 1 + n.property_count ≤ length table
  properties_within = search (rules, drop-within, first_most)

  pub after_node : (more : ℕ) → drop (index + 1 + more) table ≡ drop more there.later
  after_node more = search (rules, drop-next)

  -- The entries after it as many as it has properties are these.
  pub properties_there : (entries : List Entry) → map (item_in file) entries ≡ table →
      first_properties (map (item_in file) (take n.property_count (drop (index + 1) entries)))
      ≡ (first_sibling (drop index table)).own.properties
  properties_there entries same =
      ap first_properties (sym (take-map (item_in file) n.property_count (drop (index + 1) entries))
      ∙ ap (take n.property_count) (sym (drop-map (item_in file) (index + 1) entries) ∙ ap (drop (index + 1)) same
      ∙ ap (λ k. drop k table) (omega arith) ∙ after_node 0))
      ∙ ap (λ k. first_properties (take k there.later)) there.linked.count
      ∙ first_take there.later
      ∙ ap (λ items. (first_sibling items).own.properties) (sym there.is_at)

  -- What comes after the properties.
  abbrev rest : List TableItem
  rest = drop (length (first_properties there.later)) there.later

  rest_there : drop (index + 1 + n.property_count) table ≡ rest
  rest_there = after_node n.property_count ∙ ap (λ k. drop k there.later) there.linked.count

  after_is : n.after ≡ index + 1 + count_inside n.depth there.later
  after_is = there.linked.at_end (omega arith)

  inside_is : count_inside n.depth there.later ≡ n.property_count + count_inside n.depth rest
  inside_is = search (rules, inside-past_properties)

  children_are : (first_sibling (drop index table)).children ≡ nodes_of (n.depth + 1) rest
  children_are = search (rules, nodes-past_properties)

  -- Without entries inside it there is no child.
  pub no_child : index + 1 + n.property_count ≡ n.after → (first_sibling (drop index table)).children ≡ none
  no_child end = children_are ∙ by_rest rest (first_rest there.later) nothing where
    nothing : count_inside n.depth rest ≡ 0
    nothing = let a : n.after ≡ index + 1 + count_inside n.depth there.later = after_is in
        let b : count_inside n.depth there.later ≡ n.property_count + count_inside n.depth rest = inside_is in
        omega arith

    by_rest : (items : List TableItem) → ((p : FileProperty) (more : List TableItem) → items ≡ PropertyItem p ∷ more → ⊥) →
        count_inside n.depth items ≡ 0 → nodes_of (n.depth + 1) items ≡ none
    by_rest [] no_property empty = refl
    by_rest (PropertyItem p ∷ items) no_property empty = absurd (no_property p items refl)
    by_rest (NodeItem own place name ∷ items) no_property empty = elim (cases_lt n.depth own) [
      | inl deeper ↦ (let some : count_inside n.depth (NodeItem own place name ∷ items)
          ≡ count_inside n.depth items + 1 = inside-deeper n.depth own place name items deeper in absurd (omega arith))
      | inr stops ↦ nodes-above (n.depth + 1) own place name items (omega arith)
    ]

  -- Else the first child comes after the properties.
  pub first_child_there : ¬ (index + 1 + n.property_count ≡ n.after) →
      IsTrue (begins_with_node (drop (index + 1 + n.property_count) table))
      × (Some (first_sibling (drop (index + 1 + n.property_count) table)) ≡ node_at (first_sibling (drop index table)).children 0)
  first_child_there more =
      let found : IsTrue (begins_with_node rest) × (Some (first_sibling rest) ≡ node_at (nodes_of (n.depth + 1) rest) 0) =
      by_rest rest (first_rest there.later) least something in (
        subst (λ items. IsTrue (begins_with_node items)) (sym rest_there) found.0,
        ap (λ items. Some (first_sibling items)) rest_there ∙ found.1 ∙ ap (λ nodes. node_at nodes 0) (sym children_are),
      ) where
        something : ¬ (count_inside n.depth rest ≡ 0)
        something empty =
            let a : n.after ≡ index + 1 + count_inside n.depth there.later = after_is in
            let b : count_inside n.depth there.later ≡ n.property_count + count_inside n.depth rest = inside_is in
            more (omega arith)

        least : (own place : ℕ) (name : List ℕ) (items : List TableItem) → rest ≡ NodeItem own place name ∷ items → own ≤ n.depth + 1
        least own place name items at =
            first_depth (n.depth + 1) there.below.0 own place name items
            (ap (λ l. drop (length (first_properties l)) l) (sym there.below.1) ∙ at)

        by_rest : (items : List TableItem) → ((p : FileProperty) (more : List TableItem) → items ≡ PropertyItem p ∷ more → ⊥)
            → ((own place : ℕ) (name : List ℕ) (later : List TableItem) → items ≡ NodeItem own place name ∷ later → own ≤ n.depth + 1)
            → ¬ (count_inside n.depth items ≡ 0) →
            IsTrue (begins_with_node items) × (Some (first_sibling items) ≡ node_at (nodes_of (n.depth + 1) items) 0)
        by_rest [] no_property least some = absurd (some refl)
        by_rest (PropertyItem p ∷ items) no_property least some = absurd (no_property p items refl)
        by_rest (NodeItem own place name ∷ items) no_property least some =
            let most : own ≤ n.depth + 1 = least own place name items refl in
            elim (cases_lt n.depth own) [
              | inr stops ↦ absurd (some (inside-stops n.depth own place name items stops))
              | inl deeper ↦ (let same : own ≡ n.depth + 1 = omega arith in (
                refl,
                sym (ap (λ nodes. node_at nodes 0)
                    (nodes-same (n.depth + 1) own place name items same
                    ∙ ap (λ d. node name (record { place = place; properties = first_properties items }) (nodes_of (d + 1) items)
                    (nodes_of d items)) (sym same))),
              ))
            ]

  -- What comes after the last descendant.
  abbrev beyond : List TableItem
  beyond = drop (count_inside n.depth there.later) there.later

  beyond_there : drop n.after table ≡ beyond
  beyond_there = ap (λ k. drop k table) after_is ∙ after_node (count_inside n.depth there.later)

  later_are : (first_sibling (drop index table)).later ≡ nodes_of n.depth beyond
  later_are = ap (λ items. (first_sibling items).later) there.is_at ∙ nodes-past_inside n.depth there.later

  -- Nothing after it, no sibling.
  pub nothing_later : drop n.after table ≡ [] → (first_sibling (drop index table)).later ≡ none
  nothing_later end = later_are ∙ ap (nodes_of n.depth) (sym beyond_there ∙ end)

  -- No property comes there.
  pub no_property_later : (p : FileProperty) (items : List TableItem) → drop n.after table ≡ PropertyItem p ∷ items → ⊥
  no_property_later p items at = search (rules, after_inside, beyond_there)

  -- A node of another depth is not a sibling.
  pub other_later : (own place : ℕ) (name : List ℕ) (items : List TableItem) → drop n.after table ≡ NodeItem own place name ∷ items →
      ¬ (own ≡ n.depth) → (first_sibling (drop index table)).later ≡ none
  other_later own place name items at other = search (rules, after_inside, beyond_there, later_are, nodes-above)

  -- A node of its depth is the next sibling.
  pub next_later : (own place : ℕ) (name : List ℕ) (items : List TableItem) → drop n.after table ≡ NodeItem own place name ∷ items →
      own ≡ n.depth → IsTrue (begins_with_node (drop n.after table))
      × (Some (first_sibling (drop n.after table)) ≡ node_at (first_sibling (drop index table)).later 0)
  next_later own place name items at same = search (rules, later_are, beyond_there, nodes-same)

-- The first node of a tree's table is the root.
pub root_there : (root : Root FileNode) → first_sibling (table_of root) ≡ root_node root
root_there root = search (rules, nodes-table)

-- The siblings of a node are within the table.
pub siblings_few : (depth : ℕ) (items : List TableItem) → length (siblings (nodes_of depth items)) ≤ length items
siblings_few depth [] = omega arith
siblings_few depth (PropertyItem p ∷ items) = search (rules, siblings_few depth items)
siblings_few depth (NodeItem own place name ∷ items) =
    search (rules, cases_order, nodes-same, nodes-above, nodes-deeper, siblings_few depth items)

-- So are the children of the node that items begin with.
pub children_few : (items : List TableItem) → length (siblings (first_sibling items).children) ≤ length items
children_few [] = omega arith
children_few (PropertyItem p ∷ items) = omega arith
children_few (NodeItem depth place name ∷ items) = search (rules, siblings_few)

-- The next sibling of a child is the next child.
pub next_child_at : (nodes : Nodes FileNode) (index : ℕ) (child : Sibling FileNode) → Some child ≡ node_at nodes index →
    node_at child.later 0 ≡ node_at nodes (index + 1)
next_child_at none zero child at = absurd cc
next_child_at none (suc index) child at = absurd cc
next_child_at (node name own children later) zero child at = search rules
next_child_at (node name own children later) (suc index) child at = search (rules, next_child_at later index child at)

-- Past a missing child there is none.
pub no_child_past : (nodes : Nodes FileNode) (index more : ℕ) → node_at nodes index ≡ None → index ≤ more → node_at nodes more ≡ None
no_child_past none zero zero gone past = refl
no_child_past none zero (suc more) gone past = refl
no_child_past none (suc index) zero gone past = refl
no_child_past none (suc index) (suc more) gone past = refl
no_child_past (node name own children later) zero more gone past = absurd cc
no_child_past (node name own children later) (suc index) zero gone past = absurd (omega arith)
no_child_past (node name own children later) (suc index) (suc more) gone past = no_child_past later index more gone (omega arith)

-- A property of a node by its index.
module _ (file : List ℕ) (entries : List Entry) (table : List TableItem) (index : ℕ) (n : NodeEntry)
    (same : map (item_in file) entries ≡ table) (there : IsNodeOf file table index n) (i : ℕ)
    (within : i < length (first_sibling (drop index table)).own.properties) where
  few : i < length (first_properties there.later)
  few = subst (λ items. i < length (first_sibling items).own.properties) there.is_at within

  pub property_within : index + 1 + i < length entries
  property_within =
      let long : length table ≡ length entries = sym (ap length same) ∙ simp length-map in
      let count : n.property_count ≡ length (first_properties there.later) = there.linked.count in
      let most : index + 1 + n.property_count ≤ length table = properties_within file table index n there in
      let some : i < length (first_properties there.later) = few in
      omega arith

  -- The items from it on.
  property_item : (e d : Entry) → get_or entries (index + 1 + i) d ≡ e →
      item_in file e ∷ map (item_in file) (drop (suc (index + 1 + i)) entries)
      ≡ PropertyItem (first_at there.later i few).property ∷ (first_at there.later i few).rest
  property_item e d is =
      sym (items_here file entries (index + 1 + i) e d property_within is) ∙ ap (drop (index + 1 + i)) same
      ∙ after_node file table index n there i ∙ (first_at there.later i few).is_at

  pub no_node_there : (m : NodeEntry) (d : Entry) → get_or entries (index + 1 + i) d ≡ entry.Node m → ⊥
  no_node_there m d is = let e = property_item (entry.Node m) d is in cc

  pub property_there : (p : PropertyEntry) (k : ℕ) (d : Entry) → get_or entries (index + 1 + i) d ≡ entry.Property p k →
      slice_get (first_sibling (drop index table)).own.properties i ≡ Some (property_in file p)
  property_there p k d is =
      let f : IsFirstAt there.later i = first_at there.later i few in
      let e : PropertyItem (property_in file p) ∷ map (item_in file) (drop (suc (index + 1 + i)) entries) ≡ PropertyItem f.property
      ∷ f.rest = property_item (entry.Property p k) d is in
      let same_property : property_in file p ≡ f.property = first_item e in
      ap (λ items. slice_get (first_sibling items).own.properties i) there.is_at ∙ f.is_got ∙ ap (λ q. Some q) (sym same_property) where
        first_item : {a b : FileProperty} {u v : List TableItem} → PropertyItem a ∷ u ≡ PropertyItem b ∷ v → a ≡ b
        first_item e = cc

-- A node has as many properties as its entry counts.
pub property_count_is : (file : List ℕ) (table : List TableItem) (index : ℕ) (n : NodeEntry) → IsNodeOf file table index n →
    n.property_count ≡ length (first_sibling (drop index table)).own.properties
property_count_is file table index n there = search rules

-- A look-up passes over a node of another name.
pub lookup_passes : (name : List ℕ) (child : Sibling FileNode) (later : List (Sibling FileNode)) → bytes_eq child.name name ≡ false →
    lookup (λ other. bytes_eq other name) (map (λ sibling. (sibling.name, sibling)) (child ∷ later))
    ≡ lookup (λ other. bytes_eq other name) (map (λ sibling. (sibling.name, sibling)) later)
lookup_passes name child later other = search rules

-- The value of a property of a name.
pub value_found : (properties : List FileProperty) (name : List ℕ) →
    value_named (map property_of properties) name ≡ option_map (λ property. property.value) (property_named properties name)
value_found [] name = refl
value_found (p ∷ properties) name = search (rules, value_found properties name)
