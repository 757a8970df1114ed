use Rattle.std.proofs.Common.{◌≡◌, ℕ, zero, suc, ◌+◌, ◌<◌, ◌≤◌, List, [], ◌∷◌, ◌++◌, length, map, drop, get_or, refl, sym, ap, subst, ◌∙◌}
use Rattle.std.proofs.Common.{inl, inr, arith, rules}
use Rattle.std.proofs.Math.ListN.{set}
use Rattle.std.proofs.Math.Seq.{map-set_same}
use Rattle.std.proofs.lemmas.Bool.{cases_lt}
use Rattle.std.proofs.lemmas.List.{length-append, length-map, map-append, drop-map}
use Rattle.bi_blob.specs.Tree.{FileProperty}
use Rattle.bi_fdt.specs.declared.table.Entry.{Entry}
use Rattle.bi_fdt.specs.declared.table.Entry.TheVariants as entry
use Rattle.bi_fdt.specs.declared.table.NodeEntry.{NodeEntry}
use Rattle.bi_fdt.specs.declared.table.PropertyEntry.{PropertyEntry}
use Rattle.bi_fdt.specs.Table.{node_name_in, property_in, item_in, IsLinked, AreLinked}
use Rattle.bi_fdt.specs.TableItems.{TableItem, NodeItem, PropertyItem, first_properties, count_inside}
use Rattle.bi_fdt.proofs.Items.{inside-deeper, inside-stops}

-- The numbers in the entries of a table still fit after one more node, after one more property of the innermost open node, and after its
-- end.

-- As many items are inside a depth as there are at most.
pub inside-most : (depth : ℕ) (items : List TableItem) → count_inside depth items ≤ length items
inside-most depth [] = omega arith
inside-most depth (PropertyItem p ∷ items) = let rest : count_inside depth items ≤ length items = inside-most depth items in omega arith
inside-most depth (NodeItem own place name ∷ items) = search (rules, cases_lt, inside-deeper, inside-stops, inside-most depth items)

-- Where some items are not inside, one more item at the end changes nothing.
pub inside-push : (depth : ℕ) (items : List TableItem) (item : TableItem) → count_inside depth items < length items →
    count_inside depth (items ++ item ∷ []) ≡ count_inside depth items
inside-push depth [] item some = absurd (omega arith)
inside-push depth (PropertyItem p ∷ items) item some = ap (λ n. n + 1) (inside-push depth items item (omega arith))
inside-push depth (NodeItem own place name ∷ items) item some = elim (cases_lt depth own) [
  | inl deeper ↦ (let e : count_inside depth (NodeItem own place name ∷ items)
      ≡ count_inside depth items + 1 = inside-deeper depth own place name items deeper in
      inside-deeper depth own place name (items ++ item ∷ []) deeper
      ∙ ap (λ n. n + 1) (inside-push depth items item (omega arith))
      ∙ sym e)
  | inr stops ↦ inside-stops depth own place name (items ++ item ∷ []) stops ∙ sym (inside-stops depth own place name items stops)
]

-- Where all items are inside, those of one more item at the end are inside too.
pub inside-all : (depth : ℕ) (items more : List TableItem) → count_inside depth items ≡ length items →
    count_inside depth (items ++ more) ≡ length items + count_inside depth more
inside-all depth [] more all = omega arith
inside-all depth (PropertyItem p ∷ items) more all = search (rules, inside-all depth items more (omega arith))
inside-all depth (NodeItem own place name ∷ items) more all = elim (cases_lt depth own) [
  | inl deeper ↦ (let one : count_inside depth (NodeItem own place name ∷ items)
      ≡ count_inside depth items + 1 = inside-deeper depth own place name items deeper in
      let two : count_inside depth (NodeItem own place name ∷ (items ++ more))
      ≡ count_inside depth (items ++ more) + 1 = inside-deeper depth own place name (items ++ more) deeper in
      let e : count_inside depth (items ++ more) ≡ length items + count_inside depth more = inside-all depth items more (omega arith) in
      omega arith)
  | inr stops ↦ (let one : count_inside depth (NodeItem own place name ∷ items) ≡ 0 = inside-stops depth own place name items stops in
      absurd (omega arith))
]

-- Items that have a node no deeper than a depth are not all inside.
pub inside-some : (depth own place : ℕ) (name : List ℕ) (index : ℕ) (items later : List TableItem) →
    drop index items ≡ NodeItem own place name ∷ later → own ≤ depth → count_inside depth items < length items
inside-some depth own place name index [] later at stops = absurd (by_index index at) where
  by_index : (i : ℕ) → drop i [] ≡ NodeItem own place name ∷ later → ⊥
  by_index zero e = cc
  by_index (suc i) e = cc
inside-some depth own place name zero (item ∷ items) later at stops = search (rules, inside-stops)
inside-some depth own place name (suc index) (PropertyItem p ∷ items) later at stops =
    let rest : count_inside depth items < length items = inside-some depth own place name index items later at stops in omega arith
inside-some depth own place name (suc index) (NodeItem other other_place other_name ∷ items) later at stops =
    search (rules, cases_lt, inside-deeper, inside-stops, inside-some depth own place name index items later at stops)

-- A node at the end is not a first property.
first-node : (items : List TableItem) (depth place : ℕ) (name : List ℕ) →
    first_properties (items ++ NodeItem depth place name ∷ []) ≡ first_properties items
first-node [] depth place name = refl
first-node (PropertyItem p ∷ items) depth place name = ap (λ l. p ∷ l) (first-node items depth place name)
first-node (NodeItem own own_place own_name ∷ items) depth place name = refl

-- A property after a node is none of the first.
first-after_node : (items later : List TableItem) (index own place : ℕ) (name : List ℕ) (p : FileProperty) →
    drop index items ≡ NodeItem own place name ∷ later → first_properties (items ++ PropertyItem p ∷ []) ≡ first_properties items
first-after_node [] later index own place name p at = absurd (by_index index at) where
  by_index : (i : ℕ) → drop i [] ≡ NodeItem own place name ∷ later → ⊥
  by_index zero e = cc
  by_index (suc i) e = cc
first-after_node (NodeItem other other_place other_name ∷ items) later index own place name p at = refl
first-after_node (PropertyItem q ∷ items) later zero own place name p at = absurd cc
first-after_node (PropertyItem q ∷ items) later (suc index) own place name p at = ap (λ l. q ∷ l)
    (first-after_node items later index own place name p at)

-- Only properties.
abbrev pub AreOnlyProperties : List TableItem → Type 0
AreOnlyProperties items = length (first_properties items) ≡ length items

pub properties_alone : (properties : List FileProperty) → AreOnlyProperties (map PropertyItem properties)
properties_alone [] = refl
properties_alone (p ∷ properties) = ap suc (properties_alone properties)

first-property : (items : List TableItem) (p : FileProperty) → AreOnlyProperties items →
    length (first_properties (items ++ PropertyItem p ∷ [])) ≡ length items + 1
first-property [] p all = refl
first-property (PropertyItem q ∷ items) p all = search (rules, first-property items p (omega arith))
first-property (NodeItem own place name ∷ items) p all = absurd (omega arith)

inside-properties_all : (depth : ℕ) (items : List TableItem) → AreOnlyProperties items → count_inside depth items ≡ length items
inside-properties_all depth [] all = refl
inside-properties_all depth (PropertyItem q ∷ items) all = search (rules, inside-properties_all depth items (omega arith))
inside-properties_all depth (NodeItem own place name ∷ items) all = absurd (omega arith)

AreLinked-properties : (file : List ℕ) (opened at : ℕ) (entries : List Entry) → AreOnlyProperties (map (item_in file) entries) →
    AreLinked file opened at entries
AreLinked-properties file opened at [] all = tt
AreLinked-properties file opened at (entry.Property p k ∷ entries) all = AreLinked-properties file opened (at + 1) entries (omega arith)
AreLinked-properties file opened at (entry.Node n ∷ entries) all = absurd (omega arith)

-- What follows an entry after one more at the end.
pub drop-push : (entries later : List Entry) (index : ℕ) (n : NodeEntry) (new : Entry) → drop index entries ≡ entry.Node n ∷ later →
    drop index (entries ++ new ∷ []) ≡ entry.Node n ∷ (later ++ new ∷ [])
drop-push [] later zero n new at = absurd cc
drop-push [] later (suc index) n new at = absurd cc
drop-push (e ∷ entries) later zero n new at = ap (λ l. l ++ new ∷ []) at
drop-push (e ∷ entries) later (suc index) n new at = drop-push entries later index n new at

-- An item where a list begins with it.
item-at : (entries later : List Entry) (index : ℕ) (n : NodeEntry) (d : Entry) → drop index entries ≡ entry.Node n ∷ later →
    get_or entries index d ≡ entry.Node n
item-at [] later zero n d at = absurd cc
item-at [] later (suc index) n d at = absurd cc
item-at (e ∷ entries) later zero n d at = cc
item-at (e ∷ entries) later (suc index) n d at = item-at entries later index n d at

-- Another number in a node's entry changes no item.
pub items-set : (file : List ℕ) (entries later : List Entry) (index : ℕ) (n m : NodeEntry) → drop index entries ≡ entry.Node n ∷ later →
    item_in file (entry.Node m) ≡ item_in file (entry.Node n) →
    map (item_in file) (set entries index (entry.Node m)) ≡ map (item_in file) entries
items-set file entries later index n m at same =
    map-set_same (item_in file) entries index (entry.Node m) (entry.Node m)
    (same ∙ sym (ap (item_in file) (item-at entries later index n (entry.Node m) at)))

-- The numbers of a node fit still after one more item that is neither its property nor inside it.
link-same : (opened at : ℕ) (n : NodeEntry) (items : List TableItem) (item : TableItem) →
    first_properties (items ++ item ∷ []) ≡ first_properties items → count_inside n.depth items < length items →
    IsLinked opened at n items → IsLinked opened at n (items ++ item ∷ [])
link-same opened at n items item first some linked = search (rules, inside-push)

-- The numbers of a node fit still after a node at the end that opens.
link-node : (opened at : ℕ) (n : NodeEntry) (items : List TableItem) (place : ℕ) (name : List ℕ) → IsLinked opened at n items →
    IsLinked (opened + 1) at n (items ++ NodeItem opened place name ∷ [])
link-node opened at n items place name linked =
    search (rules, inside-most, length-append, cases_lt, inside-push, first-node, inside-all, inside-deeper, inside-stops)

-- The numbers of a table fit still after a node at the end that opens.
pub AreLinked-node : (file : List ℕ) (opened at : ℕ) (entries : List Entry) (new : NodeEntry) → new.depth ≡ opened →
    new.property_count ≡ 0 → AreLinked file opened at entries → AreLinked file (opened + 1) at (entries ++ entry.Node new ∷ [])
AreLinked-node file opened at [] new deep none linked = search rules
AreLinked-node file opened at (entry.Property p k ∷ entries) new deep none linked = AreLinked-node file opened
    (at + 1) entries new deep none linked
AreLinked-node file opened at (entry.Node n ∷ entries) new deep none linked = (
  subst (IsLinked (opened + 1) at n) (sym (map-append (item_in file) entries (entry.Node new ∷ [])))
      (subst (λ d. IsLinked (opened + 1) at n (map (item_in file) entries ++ NodeItem d new.place (node_name_in file new) ∷ [])) (sym deep)
      (link-node opened at n (map (item_in file) entries) new.place (node_name_in file new) linked.0)),
  AreLinked-node file opened (at + 1) entries new deep none linked.1,
)

-- The numbers of a table fit still after one more property of its innermost open node, which has no child, where this is
-- counted.
pub AreLinked-property : (file : List ℕ) (opened at : ℕ) (entries later : List Entry) (index : ℕ) (n m : NodeEntry)
    (p : PropertyEntry) (k : ℕ) →
    drop index entries ≡ entry.Node n ∷ later → n.depth + 1 ≡ opened → AreOnlyProperties (map (item_in file) later) → m.depth ≡ n.depth →
    item_in file (entry.Node m) ≡ item_in file (entry.Node n) → m.property_count ≡ length later + 1 → AreLinked file opened at entries →
    AreLinked file opened at (set (entries ++ entry.Property p k ∷ []) index (entry.Node m))
AreLinked-property file opened at [] later zero n m p k here deep all same same_item counted linked = absurd cc
AreLinked-property file opened at [] later (suc index) n m p k here deep all same same_item counted linked = absurd cc
AreLinked-property file opened at (e ∷ entries) later zero n m p k here deep all same same_item counted linked =
    search (rules, length-map, map-append, first-property, length-append, inside-properties_all, AreLinked-properties)
AreLinked-property file opened at (entry.Property q j ∷ entries) later (suc index) n m p k here deep all same same_item counted linked =
    AreLinked-property file opened (at + 1) entries later index n m p k here deep all same same_item counted linked
AreLinked-property file opened at (entry.Node o ∷ entries) later (suc index) n m p k here deep all same same_item counted linked =
    let new : TableItem = PropertyItem (property_in file p) in
    let there : drop index (map (item_in file) entries) ≡ NodeItem n.depth n.place (node_name_in file n) ∷ map (item_in file) later =
    drop-map (item_in file) index entries ∙ ap (map (item_in file)) here in
    let inner : drop index (entries ++ entry.Property p k ∷ []) ≡ entry.Node n
    ∷ (later ++ entry.Property p k ∷ []) = drop-push entries later index n (entry.Property p k) here in
    let items : map (item_in file) (set (entries ++ entry.Property p k ∷ []) index (entry.Node m))
    ≡ map (item_in file) entries ++ new ∷ [] =
    items-set file (entries ++ entry.Property p k ∷ []) (later ++ entry.Property p k ∷ []) index n m inner same_item
    ∙ map-append (item_in file) entries (entry.Property p k ∷ []) in
    let first : first_properties (map (item_in file) entries ++ new ∷ []) ≡ first_properties (map (item_in file) entries) =
    first-after_node (map (item_in file) entries) (map (item_in file) later) index n.depth n.place (node_name_in file n)
    (property_in file p) there in (
      subst (IsLinked opened at o) (sym items) (by_end (map (item_in file) entries) (map (item_in file) later) index linked.0 first there),
      AreLinked-property file opened (at + 1) entries later index n m p k here deep all same same_item counted linked.1,
    ) where
      by_end : (items later : List TableItem) (index : ℕ) → IsLinked opened at o items →
          first_properties (items ++ PropertyItem (property_in file p) ∷ []) ≡ first_properties items →
          drop index items ≡ NodeItem n.depth n.place (node_name_in file n) ∷ later →
          IsLinked opened at o (items ++ PropertyItem (property_in file p) ∷ [])
      by_end items later index linked first there =
          let most : count_inside o.depth items ≤ length items = inside-most o.depth items in
          let longer : length (items ++ PropertyItem (property_in file p) ∷ [])
          ≡ length items + 1 = length-append items (PropertyItem (property_in file p) ∷ []) in
          elim (cases_lt (count_inside o.depth items) (length items)) [
            | inl some ↦ link-same opened at o items (PropertyItem (property_in file p)) first some linked
            | inr every ↦ (
                let inside : count_inside o.depth (items ++ PropertyItem (property_in file p) ∷ [])
                ≡ length items + count_inside o.depth (PropertyItem (property_in file p) ∷ []) =
                inside-all o.depth items (PropertyItem (property_in file p) ∷ []) (omega arith) in
                record {
                  count = linked.count ∙ ap length (sym first);
                  before_end = λ within. absurd (omega arith);
                  at_end = λ closed. (let some : count_inside o.depth items < length items = inside-some o.depth n.depth n.place
                      (node_name_in file n) index items later there (omega arith) in absurd (omega arith));
                })
          ]

-- Where all entries are deeper than a depth, their numbers fit with one open node fewer.
lower : (file : List ℕ) (depth at : ℕ) (entries : List Entry) →
    count_inside depth (map (item_in file) entries) ≡ length (map (item_in file) entries) →
    AreLinked file (depth + 1) at entries → AreLinked file depth at entries
lower file depth at [] all linked = tt
lower file depth at (entry.Property p k ∷ entries) all linked = lower file depth (at + 1) entries (omega arith) linked
lower file depth at (entry.Node n ∷ entries) all linked =
    elim (cases_lt depth n.depth) [
      | inl deeper ↦ (let e : count_inside depth (NodeItem n.depth n.place (node_name_in file n) ∷ map (item_in file) entries)
          ≡ count_inside depth (map (item_in file) entries) + 1 = inside-deeper depth n.depth n.place (node_name_in file n)
          (map (item_in file) entries) deeper in (
            record { count = linked.0.count; before_end = linked.0.before_end; at_end = λ _. linked.0.at_end (omega arith) },
            lower file depth (at + 1) entries (omega arith) linked.1,
          ))
      | inr stops ↦ (let e : count_inside depth (NodeItem n.depth n.place (node_name_in file n) ∷ map (item_in file) entries)
          ≡ 0 = inside-stops depth n.depth n.place (node_name_in file n) (map (item_in file) entries) stops in absurd (omega arith))
    ]

-- The numbers of a table fit still after its innermost open node has ended.
pub AreLinked-end : (file : List ℕ) (opened at total : ℕ) (entries later : List Entry) (index : ℕ) (n m : NodeEntry) →
    drop index entries ≡ entry.Node n ∷ later → n.depth ≡ opened →
    count_inside n.depth (map (item_in file) later) ≡ length (map (item_in file) later) →
    m.depth ≡ n.depth → item_in file (entry.Node m) ≡ item_in file (entry.Node n) → m.property_count ≡ n.property_count → m.after ≡ total →
    total ≡ at + length entries → AreLinked file (opened + 1) at entries → AreLinked file opened at (set entries index (entry.Node m))
AreLinked-end file opened at total [] later zero n m here deep all same same_item same_count after end linked = absurd cc
AreLinked-end file opened at total [] later (suc index) n m here deep all same same_item same_count after end linked = absurd cc
AreLinked-end file opened at total (e ∷ entries) later zero n m here deep all same same_item same_count after end linked =
    search (rules, length-map, lower)
AreLinked-end file opened at total (entry.Property q k ∷ entries) later
    (suc index) n m here deep all same same_item same_count after end linked =
    AreLinked-end file opened (at + 1) total entries later index n m here deep all same same_item same_count after (omega arith) linked
AreLinked-end file opened at total (entry.Node o ∷ entries) later (suc index) n m here deep all same same_item same_count after end linked =
    let there : drop index (map (item_in file) entries) ≡ NodeItem n.depth n.place (node_name_in file n) ∷ map (item_in file) later =
    drop-map (item_in file) index entries ∙ ap (map (item_in file)) here in (
      subst (IsLinked opened at o) (sym (items-set file entries later index n m here same_item)) (record {
        count = linked.0.count;
        before_end = linked.0.before_end;
        at_end = λ closed. linked.0.before_end
            (inside-some o.depth n.depth n.place (node_name_in file n) index (map (item_in file) entries)
            (map (item_in file) later) there (omega arith));
      }),
      AreLinked-end file opened (at + 1) total entries later index n m here deep all same same_item same_count after (omega arith) linked.1,
    )
