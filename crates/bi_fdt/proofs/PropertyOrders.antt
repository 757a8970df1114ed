use Rattle.std.proofs.Common.{◌≡◌, ℕ, zero, suc, ◌+◌, ◌<◌, ◌≤◌, List, [], ◌∷◌, ◌++◌, length, map, take, drop, get_or, rules}
use Rattle.std.proofs.Common.{IsPermutation, is_lt, inl, inr, refl, sym, ap, subst, ◌∙◌, arith}
use Rattle.std.proofs.lemmas.Bool.{false≢true, cases_eq}
use Rattle.std.proofs.lemmas.List.{drop-take, length-drop, length-take-le, take_more}
use Rattle.std.proofs.lemmas.List.Sorted.{IsNonDecreasingBy-from_sort, IsPermutation-put_mid, length_permutation}
use Rattle.std.proofs.Math.ListN.{drop_of_length-le}
use Rattle.std.proofs.Math.Seq.{take-length}
use Rattle.std.proofs.lemmas.List.{append-nil}
use Rattle.std.proofs.lemmas.Slice.{take-put_mid_below, take-put_mid, drop-put_mid}
use Rattle.std.specs.List.Sorted.{IsSortedBy}
use Rattle.std.specs.Ordering.{nat_cmp, ordering_then}
use borrow.Rule.Slice.PartMut.{mid_of, put_mid}
use Rattle.bi_blob.specs.Tree.{Root, FileNode}
use Rattle.bi_blob.specs.Events.{file_events_of}
use Rattle.bi_fdt.specs.declared.table.Entry.{Entry}
use Rattle.bi_fdt.specs.declared.table.Entry.TheVariants as entry
use Rattle.bi_fdt.specs.declared.table.NodeEntry.{NodeEntry}
use Rattle.bi_fdt.specs.declared.table.PropertyEntry.{PropertyEntry}
use Rattle.bi_fdt.specs.Content.{begins_with_node}
use Rattle.bi_fdt.specs.Fields.{IsNodeOf}
use Rattle.bi_fdt.specs.Order.{with_indices_from, pairs_of_node, AreInOrder, IsPropertyOrder}
use Rattle.bi_fdt.specs.Reading.{IsTable}
use Rattle.bi_fdt.specs.Table.{item_in}
use Rattle.bi_fdt.specs.TableItems.{TableItem, NodeItem, PropertyItem, first_properties}
use Rattle.bi_fdt.specs.Views.{HasNodeAt, node_in}
use Rattle.bi_fdt.proofs.DistinctKeys.{first_not_less}
use Rattle.bi_fdt.proofs.NodeEntries.{items_here, no_property, node_of_table}

-- A sort of the pairs of the properties of a node leaves those of the other nodes as they were.

abbrev Pairs : Type 0
Pairs = List (ℕ × ℕ)

-- ---- keys before their indices

indices-push : (index : ℕ) (keys : List ℕ) (key : ℕ) →
    with_indices_from index (keys ++ key ∷ []) ≡ with_indices_from index keys ++ (key, index + length keys) ∷ []
indices-push index [] key = ap (λ n. (key, n) ∷ []) (omega arith)
indices-push index (first ∷ keys) key = search (rules, indices-push (index + 1) keys key)

-- Some keys before their indices, and then the next.
pub indices_more : (keys : List ℕ) (k d : ℕ) (pairs more : Pairs) → k < length keys → pairs ≡ with_indices_from 0 (take k keys) →
    more ≡ pairs ++ (get_or keys k d, k) ∷ [] → more ≡ with_indices_from 0 (take (k + 1) keys)
indices_more keys k d pairs more within are pushed =
    let long : 0 + length (take k keys) ≡ k = omega (arith, length-take-le k keys (omega arith)) in
    pushed ∙ ap (λ l. l ++ (get_or keys k d, k) ∷ []) are
    ∙ ap (λ n. with_indices_from 0 (take k keys) ++ (get_or keys k d, n) ∷ []) (sym long)
    ∙ sym (indices-push 0 (take k keys) (get_or keys k d))
    ∙ ap (with_indices_from 0) (sym (take_more keys k d within))

-- There are as many as keys.
pub length-indices : (index : ℕ) (keys : List ℕ) → length (with_indices_from index keys) ≡ length keys
length-indices index [] = refl
length-indices index (key ∷ keys) = ap suc (length-indices (index + 1) keys)

-- ---- nodes and their properties

-- A node among items is after the properties that they begin with.
after_properties : (items : List TableItem) (index : ℕ) → HasNodeAt items index → length (first_properties items) ≤ index
after_properties [] zero is = absurd (false≢true is)
after_properties [] (suc index) is = absurd (false≢true is)
after_properties (NodeItem depth place name ∷ items) index is = omega arith
after_properties (PropertyItem property ∷ items) zero is = absurd (false≢true is)
after_properties (PropertyItem property ∷ items) (suc index) is = search (rules, after_properties items index is)

-- The number of the properties of the node at an index of a table.
abbrev count_at : List TableItem → ℕ → ℕ
count_at table index = length (node_in table index).own.properties

-- So a node is after the properties of a node before it.
nodes_apart : (table : List TableItem) (index other : ℕ) → HasNodeAt table index → HasNodeAt table other → index < other →
    index + 1 + count_at table index ≤ other
nodes_apart [] zero other is other_is before = absurd (false≢true is)
nodes_apart [] (suc index) other is other_is before = absurd (false≢true is)
nodes_apart (item ∷ table) index zero is other_is before = absurd (omega arith)
nodes_apart (NodeItem depth place name ∷ table) zero (suc other) is other_is before = search (rules, after_properties)
nodes_apart (PropertyItem property ∷ table) zero (suc other) is other_is before = absurd (false≢true is)
nodes_apart (item ∷ table) (suc index) (suc other) is other_is before =
    let rest : index + 1 + count_at table index ≤ other = nodes_apart table index other is other_is (omega arith) in omega arith

-- ---- one sort

-- A part of a list before what was written is as it was,
before_part : (begin count at more : ℕ) (pairs part : Pairs) → at + more ≤ begin → begin ≤ length pairs →
    take more (drop at (put_mid begin count pairs part)) ≡ take more (drop at pairs)
before_part begin count at more pairs part before within =
    sym (drop-take at more (put_mid begin count pairs part))
    ∙ ap (drop at) (take-put_mid_below begin count pairs part (at + more) before within)
    ∙ drop-take at more pairs

-- and what was written is there.
part_there : (begin count : ℕ) (pairs part : Pairs) → length part ≡ count → begin ≤ length pairs →
    take count (drop begin (put_mid begin count pairs part)) ≡ part
part_there begin count pairs part long within =
    sym (drop-take begin count (put_mid begin count pairs part))
    ∙ ap (drop begin) (take-put_mid begin count pairs part (begin + count) (ap (λ n. begin + n) (sym long)) within)
    ∙ past begin (take begin pairs) part (length-take-le begin pairs within)
  where
    past : (n : ℕ) (xs ys : Pairs) → length xs ≡ n → drop n (xs ++ ys) ≡ ys
    past n [] ys is = ap (λ n. drop n ys) (sym is)
    past zero (x ∷ xs) ys is = absurd (omega arith)
    past (suc n) (x ∷ xs) ys is = past n xs ys (omega arith)

-- ---- all of them, up to an index

-- The pairs of the nodes before an index are in order, and those of the others are as they were.
pub record AreInOrderBefore (table : List TableItem) (end : ℕ) (pairs now : Pairs) : Type 0 where
  pub count : length now ≡ length pairs
  pub done : (index : ℕ) → HasNodeAt table index → index < end →
      AreInOrder (pairs_of_node table index pairs) (pairs_of_node table index now)
  pub left : (index : ℕ) → HasNodeAt table index → end ≤ index → pairs_of_node table index now ≡ pairs_of_node table index pairs

pub none_before : (table : List TableItem) (pairs : Pairs) → AreInOrderBefore table 0 pairs pairs
none_before table pairs = search rules

-- An item that is not a node changes nothing.
pub no_node_more : (table : List TableItem) (end : ℕ) (pairs now : Pairs) → (HasNodeAt table end → ⊥) →
    AreInOrderBefore table end pairs now →
    AreInOrderBefore table (end + 1) pairs now
no_node_more table end pairs now is_none are = search (rules, cases_eq)

-- A sort of the pairs of a node.
pub node_more : (table : List TableItem) (end begin count : ℕ) (pairs now part : Pairs) → HasNodeAt table end → begin ≡ end + 1 →
    count ≡ count_at table end → begin + count ≤ length now → AreInOrderBefore table end pairs now →
    IsPermutation (mid_of begin count now) part →
    IsSortedBy (λ a b. is_lt (ordering_then (nat_cmp a.0 b.0) (nat_cmp a.1 b.1))) part →
    AreInOrderBefore table (end + 1) pairs (put_mid begin count now part)
node_more table end begin count pairs now part is begins counts within are moved ascending = record {
  count = length_permutation now (put_mid begin count now part) (IsPermutation-put_mid begin count now part moved) ∙ are.count;
  done = λ index index_is before. elim (cases_eq index end) [
    | inl same ↦ subst (λ k. AreInOrder (pairs_of_node table k pairs) (pairs_of_node table k (put_mid begin count now part)))
        (sym same) here
    | inr other ↦ subst (λ l. AreInOrder (pairs_of_node table index pairs) l) (sym (kept_before index index_is (omega arith)))
        (are.done index index_is (omega arith))
  ];
  left = λ index index_is after. kept_after index index_is (omega arith) ∙ are.left index index_is (omega arith);
} where
  -- The pairs that are sorted are those of the node, which were as they had been.
  own : mid_of begin count now ≡ pairs_of_node table end pairs
  own =
      ap (λ k. take count (drop k now)) begins ∙ ap (λ n. take n (drop (end + 1) now)) counts ∙ are.left end is (omega arith)

  long : length part ≡ count
  long =
      length_permutation (mid_of begin count now) part moved
      ∙ length-take-le count (drop begin now) (omega (arith, within, length-drop begin now))

  here : AreInOrder (pairs_of_node table end pairs) (pairs_of_node table end (put_mid begin count now part))
  here =
      subst (AreInOrder (pairs_of_node table end pairs))
      (sym (part_there begin count now part long (omega arith))
      ∙ ap (λ k. take count (drop k (put_mid begin count now part))) begins
      ∙ ap (λ n. take n (drop (end + 1) (put_mid begin count now part))) counts)
      (record {
        permutation = subst (λ l. IsPermutation l part) own moved;
        in_order = IsNonDecreasingBy-from_sort (λ keyed. keyed.0) part (λ k d least before. first_not_less _ _
            (ascending k d least before));
      })

  kept_before : (index : ℕ) → HasNodeAt table index → index < end →
      pairs_of_node table index (put_mid begin count now part) ≡ pairs_of_node table index now
  kept_before index index_is before =
      before_part begin count (index + 1) (count_at table index) now part
      (let apart : index + 1 + count_at table index ≤ end = nodes_apart table index end index_is is before in omega arith) (omega arith)

  kept_after : (index : ℕ) → HasNodeAt table index → end < index →
      pairs_of_node table index (put_mid begin count now part) ≡ pairs_of_node table index now
  kept_after index index_is after =
      ap (take (count_at table index)) (drop-put_mid begin count now part (index + 1)
      (let apart : end + 1 + count_at table end ≤ index = nodes_apart table end index is index_is after in omega arith) (omega arith) long)

-- ---- entries

module _ (file : List ℕ) (entries : List Entry) (table : List TableItem) (same : map (item_in file) entries ≡ table) where
  -- An entry of a node is one of a node of the table.
  pub node_entry_at : (root : Root FileNode) → IsTable file entries root → (index : ℕ) (n : NodeEntry) (d : Entry) →
      index < length entries →
      get_or entries index d ≡ entry.Node n → HasNodeAt table index × IsNodeOf file table index n
  node_entry_at root is_table index n d within is =
      let is_node : HasNodeAt table index =
      ap begins_with_node (ap (drop index) (sym same) ∙ items_here file entries index (entry.Node n) d within is) in
      (is_node, node_of_table file entries table (file_events_of root) index n d same is_table.items is_table.linked is_node is)

  -- Another entry is none.
  pub no_node_entry : (index : ℕ) (p : PropertyEntry) (k : ℕ) (d : Entry) → index < length entries →
      get_or entries index d ≡ entry.Property p k →
      HasNodeAt table index → ⊥
  no_node_entry index p k d within is is_node = no_property file entries table index p k d same is_node within is

-- ---- the whole order

-- What was written over a whole list is all of it.
whole : (count : ℕ) (written pairs : Pairs) → length written ≡ length pairs → count ≡ length pairs →
    take count (written ++ drop (length written) pairs) ≡ written
whole count written pairs long counted = search (rules, drop_of_length-le, append-nil, take-length)

-- The keys with their indices after the sort of each node's.
pub order_made : (table : List TableItem) (keys : List ℕ) (count : ℕ) (pairs before now : Pairs) → length keys ≡ length table →
    pairs ≡ with_indices_from 0 keys → before ≡ pairs → length now ≡ length before → count ≡ length pairs →
    ((index : ℕ) → HasNodeAt table index → AreInOrder (pairs_of_node table index before) (pairs_of_node table index now)) →
    IsPropertyOrder table keys (take count (now ++ drop (length now) pairs))
order_made table keys count pairs before now long are same kept counted each = search (rules, whole, length-indices)
