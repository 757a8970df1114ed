use Rattle.std.proofs.Common.{◌≡◌, ℕ, zero, suc, ◌+◌, ◌-◌, ◌<◌, ◌≤◌, Some, slice_get, List, [], ◌∷◌, ◌++◌, length, map, drop, reverse, refl}
use Rattle.std.proofs.Common.{sym, rules}
use Rattle.std.proofs.Common.{ap, subst, ◌∙◌, arith}
use Rattle.std.proofs.Math.ListN.{set}
use Rattle.std.proofs.Math.Seq.{drop-append_seam}
use Rattle.std.proofs.lemmas.List.{length-append, length-set, length-map, map-append, drop-map, append-nil, reverse-append, length-reverse}
use Rattle.std.proofs.lemmas.List.{map_push}
use Rattle.bi_blob.specs.Tree.{FileProperty, names}
use Rattle.bi_blob.specs.Events.{FileNodeProperty, FileNodeEnd}
use Rattle.bi_blob.specs.NameSets.{HoldsNames}
use Rattle.bi_blob.specs.OpenNodes.{OpenFileNode, new_node, events_of_open_nodes, events_of_open_node, with_one_property, with_one_child}
use Rattle.bi_blob.specs.OpenNodes.{own_of}
use Rattle.bi_blob.proofs.Blobs.OpenNodes.{events_of_open_nodes-property, events_of_open_nodes-child, names-with_last}
use Rattle.bi_fdt.specs.declared.growing.Growing.{Growing}
use Rattle.bi_fdt.specs.declared.growing.OpenNode.{OpenNode}
use Rattle.bi_fdt.specs.declared.table.Entry.{Entry}
use Rattle.bi_fdt.specs.declared.table.Entry.TheVariants as entry
use Rattle.bi_fdt.specs.declared.table.NodeEntry.{NodeEntry}
use Rattle.bi_fdt.specs.declared.table.PropertyEntry.{PropertyEntry}
use Rattle.bi_fdt.specs.Table.{property_in, item_in, AreLinked}
use Rattle.bi_fdt.specs.TableItems.{TableItem, NodeItem, PropertyItem, count_inside, items_of}
use Rattle.bi_fdt.specs.Growth.{AreOpen, IsGrowing, IsFinished, EndsInside}
use Rattle.bi_fdt.specs.Numbers.{IsNumberOf, with_used_name}
use Rattle.bi_fdt.specs.PropertyMarks.{HasMarked, AreMarksBelow}
use Rattle.bi_fdt.specs.TableNames.{AreTableNames}
use Rattle.bi_fdt.proofs.Items.{items_of-append, open_items, node_items, items_of-open_nodes, items_of-open, inside-open, childless_items}
use Rattle.bi_fdt.proofs.Links.{AreLinked-node, AreLinked-property, AreLinked-end, items-set, drop-push, properties_alone}
use Rattle.bi_fdt.proofs.Links.{AreOnlyProperties}
use Rattle.bi_fdt.proofs.OpenEntries.{AreOpen-length}
use Rattle.bi_fdt.proofs.PropertyMarks.{begins_without_names, bound_more}
use Rattle.bi_fdt.proofs.TableNames.{table_names-node, table_names-property, table_names-set}

-- A table that grows still has the entries of its open nodes after a child begins, after a property is added to the innermost one, and
-- after that one ends.

-- What an open node's entry begins in the items of a growing table.
pub open_entry : (opened : OpenNode) (later : List OpenNode) (children : List (List ℕ)) (o : OpenFileNode) (outer : List OpenFileNode) →
    AreOpen (opened ∷ later) children o.name outer →
    drop opened.entry (items_of 0 (events_of_open_nodes o outer)) ≡ open_items (length outer) o
open_entry opened [] children o [] are = ap (λ n. drop n (items_of 0 (events_of_open_node o))) are.0 ∙ items_of-open 0 o
open_entry opened (p ∷ later) children o [] are = absurd are
open_entry opened later children o (parent ∷ outer) are = search (rules, items_of-open_nodes, drop-append_seam, open_items)

-- A node's entry where the items have a node.
pub record IsNodeEntry (file : List ℕ) (entries : List Entry) (index : ℕ) (item : TableItem) (items : List TableItem) : Type 0 where
  pub n : NodeEntry
  pub later : List Entry
  pub is_at : drop index entries ≡ entry.Node n ∷ later
  pub is_item : item_in file (entry.Node n) ≡ item
  pub are_items : map (item_in file) later ≡ items

pub node_entry : (file : List ℕ) (entries : List Entry) (index depth place : ℕ) (name : List ℕ) (items : List TableItem) →
    drop index (map (item_in file) entries) ≡ NodeItem depth place name ∷ items →
    IsNodeEntry file entries index (NodeItem depth place name) items
node_entry file entries index depth place name items at = by_rest (drop index entries) refl
    (sym (drop-map (item_in file) index entries) ∙ at) where
      by_rest : (rest : List Entry) → drop index entries ≡ rest → map (item_in file) rest ≡ NodeItem depth place name ∷ items →
          IsNodeEntry file entries index (NodeItem depth place name) items
      by_rest [] is e = absurd cc
      by_rest (entry.Property p k ∷ later) is e = absurd cc
      by_rest (entry.Node n ∷ later) is e = record { n = n; later = later; is_at = is; is_item = cc; are_items = cc }

-- Where a list goes on after an index, the index is within it.
pub drop-within : {X : Type 0} (xs later : List X) (index : ℕ) (x : X) → drop index xs ≡ x ∷ later → index + 1 + length later ≡ length xs
drop-within [] later zero x at = absurd cc
drop-within [] later (suc index) x at = absurd cc
drop-within (y ∷ xs) later zero x at = let e : suc (length xs) ≡ suc (length later) = ap length at in omega arith
drop-within (y ∷ xs) later (suc index) x at = let e : index + 1 + length later ≡ length xs = drop-within xs later index x at in omega arith

-- The items of the innermost open node after its beginning.
abbrev pub open_rest : OpenFileNode → List OpenFileNode → List TableItem
open_rest o outer = map PropertyItem o.properties ++ node_items (length outer + 1) o.children

-- The entry of the innermost open node.
pub innermost_entry : (file : List ℕ) (growing : Growing) (o : OpenFileNode) (outer : List OpenFileNode) →
    IsGrowing file growing o outer →
    IsNodeEntry file growing.entries.items growing.innermost.entry (NodeItem (length outer) o.place o.name) (open_rest o outer)
innermost_entry file growing o outer is = search (rules, node_entry, open_entry)

-- It is within the table.
pub innermost_within : (file : List ℕ) (growing : Growing) (o : OpenFileNode) (outer : List OpenFileNode) →
    IsGrowing file growing o outer →
    growing.innermost.entry < length growing.entries.items
innermost_within file growing o outer is =
    let e : IsNodeEntry file growing.entries.items growing.innermost.entry (NodeItem (length outer) o.place o.name)
    (open_rest o outer) = innermost_entry file growing o outer is in
    let long : growing.innermost.entry + 1 + length e.later
    ≡ length growing.entries.items = drop-within growing.entries.items e.later growing.innermost.entry (entry.Node e.n) e.is_at in
    omega arith

-- No more nodes are open than there are items, and so entries.
open_nodes_few : (o : OpenFileNode) (outer : List OpenFileNode) → length outer + 1 ≤ length (items_of 0 (events_of_open_nodes o outer))
open_nodes_few o [] = omega arith
open_nodes_few o (parent ∷ outer) = search (rules, open_items, items_of-open_nodes, length-append, open_nodes_few parent outer)

pub open_nodes_within : (file : List ℕ) (growing : Growing) (o : OpenFileNode) (outer : List OpenFileNode) →
    IsGrowing file growing o outer → length outer + 1 ≤ length growing.entries.items
open_nodes_within file growing o outer is = search (rules, open_nodes_few, length-map)

-- As many outer nodes are kept as there are.
pub outer_count : (file : List ℕ) (growing : Growing) (innermost : OpenFileNode) (outer : List OpenFileNode) →
    IsGrowing file growing innermost outer →
    length growing.outer.items ≡ length outer
outer_count file growing innermost outer is = search (rules, AreOpen-length, length-reverse)

-- What is at an index where a list goes on after it.
pub get_at : {X : Type 0} (xs later : List X) (index : ℕ) (x : X) → drop index xs ≡ x ∷ later → slice_get xs index ≡ Some x
get_at [] later zero x at = absurd cc
get_at [] later (suc index) x at = absurd cc
get_at (y ∷ xs) later zero x at = cc
get_at (y ∷ xs) later (suc index) x at = get_at xs later index x at

-- The innermost open node with another set of names.
AreOpen-first : (a b : OpenNode) (later : List OpenNode) (children more : List (List ℕ)) (name : List ℕ) (outer : List OpenFileNode) →
    AreOpen (a ∷ later) children name outer → b.entry ≡ a.entry → HoldsNames b.children more → AreOpen (b ∷ later) more name outer
AreOpen-first a b [] children more name [] are same holds = (same ∙ are.0, holds)
AreOpen-first a b (c ∷ later) children more name [] are same holds = absurd are
AreOpen-first a b later children more name (parent ∷ outer) are same holds = (same ∙ are.0, holds, are.2)

-- A child begins.
pub growing_begun : (file : List ℕ) (growing grown : Growing) (o : OpenFileNode) (outer : List OpenFileNode) (name : List ℕ)
    (place : ℕ) (new : NodeEntry) (parent : OpenNode) → IsGrowing file growing o outer
    → grown.entries.items ≡ growing.entries.items ++ entry.Node new ∷ []
    → item_in file (entry.Node new) ≡ NodeItem (length outer + 1) place name → new.depth ≡ length outer + 1 → new.property_count ≡ 0
    → grown.innermost.entry ≡ length growing.entries.items → HoldsNames grown.innermost.children []
    → grown.outer.items ≡ growing.outer.items ++ parent ∷ [] → parent.entry ≡ growing.innermost.entry
    → HoldsNames parent.children (names o.children ++ name ∷ [])
    → grown.names ≡ growing.names
    → IsGrowing file grown (new_node name place) (o ∷ outer)
growing_begun file growing grown o outer name place new parent is entries item deep none at fresh outers same holds named = record {
  items = ap (map (item_in file)) entries ∙ map-append (item_in file) growing.entries.items (entry.Node new ∷ [])
      ∙ ap (λ l. map (item_in file) growing.entries.items ++ l ∷ []) item
      ∙ ap (λ l. l ++ NodeItem (length outer + 1) place name ∷ []) is.items
      ∙ sym (items_of-open_nodes (new_node name place) o outer);
  linked = subst (λ n. AreLinked file n 0 grown.entries.items) (more (length outer))
      (subst (AreLinked file (length outer + 1 + 1) 0) (sym entries)
      (AreLinked-node file (length outer + 1) 0 growing.entries.items new deep none is.linked));
  opened = subst (λ l. AreOpen (grown.innermost ∷ l) [] name (o ∷ outer))
      (sym (ap reverse outers ∙ reverse-append growing.outer.items (parent ∷ []))) (
        at ∙ sym (simp length-map) ∙ ap length is.items,
        fresh,
        AreOpen-first growing.innermost parent (reverse growing.outer.items) (names o.children)
            (names o.children ++ name ∷ []) o.name outer is.opened same holds,
      );
  named = subst (AreTableNames file grown.entries.items) (ap (λ n. n.used) (sym named))
      (subst (λ l. AreTableNames file l growing.names.used) (sym entries)
      (table_names-node file growing.entries.items growing.names.used new is.named));
  marks = subst (AreMarksBelow (length grown.entries.items)) (sym named)
      (bound_more (length growing.entries.items) (length grown.entries.items) growing.names.marks
      (omega (arith, ap length entries ∙ length-append growing.entries.items (entry.Node new ∷ []))) is.marks);
  properties = λ _. subst (λ n. HasMarked n grown.innermost.entry []) (sym named)
      (begins_without_names growing.names grown.innermost.entry (subst (λ n. AreMarksBelow n growing.names) (sym at) is.marks));
} where
  more : (n : ℕ) → n + 1 + 1 ≡ suc n + 1
  more n = omega arith

-- A property of the innermost open node, which has no child.
pub growing_property : (file : List ℕ) (growing grown : Growing) (o : OpenFileNode) (outer : List OpenFileNode)
    (p : PropertyEntry) (k : ℕ) →
    IsGrowing file growing o outer →
    names o.children ≡ []
    → ((n : NodeEntry) → slice_get (growing.entries.items ++ entry.Property p k ∷ []) growing.innermost.entry ≡ Some (entry.Node n)
    → grown.entries.items ≡ set (growing.entries.items ++ entry.Property p k ∷ []) growing.innermost.entry
    (entry.Node (record n { property_count = length (growing.entries.items ++ entry.Property p k ∷ []) - growing.innermost.entry - 1 })))
    → grown.innermost ≡ growing.innermost → grown.outer ≡ growing.outer
    → grown.names.used ≡ with_used_name growing.names.used (property_in file p).name
    → IsNumberOf grown.names.used (property_in file p).name k
    → AreMarksBelow (length grown.entries.items) grown.names
    → HasMarked grown.names growing.innermost.entry (map (λ (q : FileProperty). q.name) o.properties ++ (property_in file p).name ∷ [])
    → IsGrowing file grown (with_one_property o (property_in file p)) outer
growing_property file growing grown o outer p k is childless entries same same_outer used number marks holds =
    let found : IsNodeEntry file growing.entries.items growing.innermost.entry (NodeItem (length outer) o.place o.name)
    (open_rest o outer) = innermost_entry file growing o outer is in
    let pushed : drop growing.innermost.entry (growing.entries.items ++ entry.Property p k ∷ []) ≡ entry.Node found.n
    ∷ (found.later ++ entry.Property p k ∷ []) =
    drop-push growing.entries.items found.later growing.innermost.entry found.n (entry.Property p k) found.is_at in
    let count : ℕ = length (growing.entries.items ++ entry.Property p k ∷ []) - growing.innermost.entry - 1 in
    let m : NodeEntry = record found.n { property_count = count } in
    let written : grown.entries.items ≡ set (growing.entries.items ++ entry.Property p k ∷ []) growing.innermost.entry (entry.Node m) =
    entries found.n (get_at (growing.entries.items ++ entry.Property p k ∷ []) (found.later ++ entry.Property p k ∷ [])
    growing.innermost.entry (entry.Node found.n) pushed) in
    let long : growing.innermost.entry + 1 + length found.later
    ≡ length growing.entries.items = drop-within growing.entries.items found.later growing.innermost.entry
    (entry.Node found.n) found.is_at in
    let longer : length (growing.entries.items ++ entry.Property p k ∷ [])
    ≡ length growing.entries.items + 1 = length-append growing.entries.items (entry.Property p k ∷ []) in
    let deep : found.n.depth ≡ length outer = item_depth found.is_item in
    let rest : map (item_in file) found.later ≡ map PropertyItem o.properties = found.are_items
    ∙ childless_items (length outer) o childless in
    record {
      items = ap (map (item_in file)) written
          ∙ items-set file (growing.entries.items ++ entry.Property p k ∷ [])
          (found.later ++ entry.Property p k ∷ []) growing.innermost.entry found.n m pushed refl
          ∙ map-append (item_in file) growing.entries.items (entry.Property p k ∷ [])
          ∙ ap (λ l. l ++ PropertyItem (property_in file p) ∷ []) is.items
          ∙ sym (items_of-append 0 (events_of_open_nodes o outer) (FileNodeProperty (property_in file p) ∷ []))
          ∙ ap (items_of 0) (sym (events_of_open_nodes-property o outer (property_in file p) childless));
      linked = subst (AreLinked file (length outer + 1) 0) (sym written)
          (AreLinked-property file (length outer + 1) 0 growing.entries.items found.later growing.innermost.entry found.n m p k
          found.is_at (ap (λ d. d + 1) deep)
          (subst AreOnlyProperties (sym rest) (properties_alone o.properties)) refl refl (omega arith) is.linked);
      opened = subst (λ a. AreOpen (a ∷ reverse grown.outer.items) (names o.children) o.name outer) (sym same)
          (subst (λ l. AreOpen (growing.innermost ∷ reverse l.items) (names o.children) o.name outer) (sym same_outer) is.opened);
      named = subst (λ l. AreTableNames file l grown.names.used) (sym written)
          (table_names-set file (growing.entries.items ++ entry.Property p k ∷ [])
          (found.later ++ entry.Property p k ∷ []) grown.names.used growing.innermost.entry found.n m pushed refl
          (table_names-property file growing.entries.items growing.names.used grown.names.used p k is.named used number));
      marks = marks;
      properties = λ _. subst (λ mark. HasMarked grown.names mark
          (map (λ (q : FileProperty). q.name) (with_one_property o (property_in file p)).properties))
          (ap (λ (a : OpenNode). a.entry) (sym same))
          (subst (HasMarked grown.names growing.innermost.entry)
          (sym (map_push (λ (q : FileProperty). q.name) o.properties (property_in file p))) holds);
    } where
      item_depth : {a b : ℕ} {x y : ℕ} {k l : List ℕ} → NodeItem a x k ≡ NodeItem b y l → a ≡ b
      item_depth e = cc

-- The innermost open node ends.
pub growing_ended : (file : List ℕ) (growing grown : Growing) (o : OpenFileNode) (outer : List OpenFileNode) (parent : OpenNode) →
    IsGrowing file growing o outer
    → ((n : NodeEntry) → slice_get growing.entries.items growing.innermost.entry ≡ Some (entry.Node n)
    → grown.entries.items ≡ set growing.entries.items growing.innermost.entry
    (entry.Node (record n { after = length growing.entries.items })))
    → growing.outer.items ≡ grown.outer.items ++ parent ∷ [] → grown.innermost ≡ parent → grown.names ≡ growing.names
    → EndsInside file grown o outer
growing_ended file growing grown o [] parent is entries outers same named = search (rules, reverse-append)
growing_ended file growing grown o (up ∷ outer) parent is entries outers same named =
    let found : IsNodeEntry file growing.entries.items growing.innermost.entry (NodeItem (length (up ∷ outer)) o.place o.name)
    (open_rest o (up ∷ outer)) = innermost_entry file growing o (up ∷ outer) is in
    let m : NodeEntry = record found.n { after = length growing.entries.items } in
    let written : grown.entries.items ≡ set growing.entries.items growing.innermost.entry (entry.Node m) =
    entries found.n (get_at growing.entries.items found.later growing.innermost.entry (entry.Node found.n) found.is_at) in
    let deep : found.n.depth ≡ suc (length outer) = item_depth found.is_item in
    let opened : AreOpen (growing.innermost ∷ (parent ∷ reverse grown.outer.items)) (names o.children) o.name (up ∷ outer) =
    subst (λ l. AreOpen (growing.innermost ∷ l) (names o.children) o.name (up ∷ outer))
    (ap reverse outers ∙ reverse-append grown.outer.items (parent ∷ [])) is.opened in
    record {
      items = ap (map (item_in file)) written
          ∙ items-set file growing.entries.items found.later growing.innermost.entry found.n m found.is_at refl
          ∙ is.items
          ∙ sym (append-nil (items_of 0 (events_of_open_nodes o (up ∷ outer))))
          ∙ sym (items_of-append 0 (events_of_open_nodes o (up ∷ outer)) (FileNodeEnd ∷ []))
          ∙ ap (items_of 0) (sym (events_of_open_nodes-child up o outer));
      linked = subst (λ n. AreLinked file n 0 grown.entries.items) (fewer (length outer))
          (subst (AreLinked file (suc (length outer)) 0) (sym written)
          (AreLinked-end file (suc (length outer)) 0
          (length growing.entries.items) growing.entries.items found.later growing.innermost.entry found.n m found.is_at deep
          (ap (count_inside found.n.depth) found.are_items ∙ ap (λ d. count_inside d (open_rest o (up ∷ outer))) deep
          ∙ inside-open (suc (length outer)) o ∙ ap length (sym found.are_items))
          refl refl refl refl (omega arith) is.linked));
      opened = subst (λ a. AreOpen (a ∷ reverse grown.outer.items) (names (with_one_child up o).children) up.name outer) (sym same)
          (subst (λ l. AreOpen (parent ∷ reverse grown.outer.items) l up.name outer)
          (sym (names-with_last up.children o.name (own_of o) o.children)) opened.2);
      named = subst (AreTableNames file grown.entries.items) (ap (λ n. n.used) (sym named))
          (subst (λ l. AreTableNames file l growing.names.used) (sym written)
          (table_names-set file growing.entries.items found.later growing.names.used growing.innermost.entry found.n
          m found.is_at refl is.named));
      marks = subst (AreMarksBelow (length grown.entries.items)) (sym named)
          (subst (λ n. AreMarksBelow n growing.names)
          (sym (ap length written ∙ length-set growing.entries.items growing.innermost.entry (entry.Node m))) is.marks);
      properties = λ none. absurd (some (names up.children) o.name (sym (names-with_last up.children o.name (own_of o) o.children) ∙ none));
    } where
      item_depth : {a b : ℕ} {x y : ℕ} {k l : List ℕ} → NodeItem a x k ≡ NodeItem b y l → a ≡ b
      item_depth e = cc

      fewer : (n : ℕ) → suc n ≡ n + 1
      fewer n = omega arith

      some : (ns : List (List ℕ)) (n : List ℕ) → ns ++ n ∷ [] ≡ [] → ⊥
      some [] n e = cc
      some (m ∷ ns) n e = cc

-- The root ends.
pub growing_finished : (file : List ℕ) (growing finished : Growing) (o : OpenFileNode) (outer : List OpenFileNode) →
    IsGrowing file growing o outer
    → ((n : NodeEntry) → slice_get growing.entries.items growing.innermost.entry ≡ Some (entry.Node n)
    → finished.entries.items ≡ set growing.entries.items growing.innermost.entry
    (entry.Node (record n { after = length growing.entries.items })))
    → growing.outer.items ≡ [] → finished.names ≡ growing.names
    → (outer ≡ []) × IsFinished file finished o
growing_finished file growing finished o (up ∷ outer) is written none named = search rules
growing_finished file growing finished o [] is written none named =
    let found : IsNodeEntry file growing.entries.items growing.innermost.entry (NodeItem 0 o.place o.name)
    (open_rest o []) = innermost_entry file growing o [] is in
    let m : NodeEntry = record found.n { after = length growing.entries.items } in
    let same : finished.entries.items ≡ set growing.entries.items growing.innermost.entry (entry.Node m) =
    written found.n (get_at growing.entries.items found.later growing.innermost.entry (entry.Node found.n) found.is_at) in
    let deep : found.n.depth ≡ 0 = item_depth found.is_item in (
      refl,
      record {
        items = ap (map (item_in file)) same
            ∙ items-set file growing.entries.items found.later growing.innermost.entry found.n m found.is_at refl
            ∙ is.items;
        linked = subst (AreLinked file 0 0) (sym same)
            (AreLinked-end file 0 0 (length growing.entries.items) growing.entries.items found.later
            growing.innermost.entry found.n m found.is_at deep
            (ap (count_inside found.n.depth) found.are_items ∙ ap (λ d. count_inside d (open_rest o [])) deep ∙ inside-open 0 o
            ∙ ap length (sym found.are_items))
            refl refl refl refl (omega arith) is.linked);
        named = subst (AreTableNames file finished.entries.items) (ap (λ n. n.used) (sym named))
            (subst (λ l. AreTableNames file l growing.names.used) (sym same)
            (table_names-set file growing.entries.items found.later growing.names.used growing.innermost.entry found.n
            m found.is_at refl is.named));
      },
    ) where
      item_depth : {a b : ℕ} {x y : ℕ} {k l : List ℕ} → NodeItem a x k ≡ NodeItem b y l → a ≡ b
      item_depth e = cc
