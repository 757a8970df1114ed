use Rattle.std.proofs.Common.{◌≡◌, ◌≤◌, ℕ, ◌+◌, Bool, true, false, not, cond, List, [], ◌∷◌, ◌++◌, None, Some, map, refl, sym, ap, ap₂, ◌∙◌}
use Rattle.std.proofs.Common.{append_assoc, append-nil, arith, ◌-◌}
use Rattle.std.specs.Prelude.{◌==◌, if◌then◌else◌}
use Rattle.std.proofs.lemmas.Bool.{ne_eqb}
use Rattle.std.specs.Cmp.Lexicographic.{slice_cmp}
use Rattle.std.proofs.Common.{nat_cmp}
use Rattle.std.specs.FinMap.{entries}
use Rattle.std.specs.FinMap.Entries.{where_key}
use Rattle.bi_blob.specs.Tree.{Nodes, none, node, Property, PropertyMap, Root}
use Rattle.bi_describe.specs.ComparedNodes.{ComparedNode, ComparedPayload, NoImage, ImageWith}
use Rattle.bi_describe.specs.Ignoring.{Ignored, is_node_ignored, is_property_ignored}
use Rattle.bi_describe.specs.KeptEntries.{is_entry_kept, kept_entries, kept_entry, root_entries, skipped_after}
use Rattle.bi_describe.specs.ReducedMeanings.{kept_nodes, kept_own, kept_properties, kept_root}
use Rattle.bi_describe.specs.TreeEntries.{EntryModel, NodeBegins, NodeEnds, PayloadEntry, PropertiesBegin, PropertyEntry}
use Rattle.bi_describe.specs.TreeEntries.{ChildrenBegin, node_entries, open_after, own_entries, payload_entries, property_entries}
use Rattle.bi_describe.proofs.KeptProperties.{entries_kept}
use Rattle.bi_describe.proofs.TreeLines.{names_above}

-- The entries that stay are those of the nodes that stay.

-- ---- below a node that is left out

one_more : (skipped : ℕ) → (skipped + 1 == 0) ≡ false
one_more skipped = ne_eqb (skipped + 1) 0 (λ e. omega (arith, e))

-- Properties are left out,
properties_skipped : (words : List Ignored) (names : List (List ℕ)) (skipped : ℕ) → (skipped == 0) ≡ false → (properties : List Property)
    (rest : List EntryModel) →
    kept_entries words names skipped ((map PropertyEntry properties ++ ChildrenBegin ∷ []) ++ rest) ≡ kept_entries words names skipped rest
properties_skipped words names skipped some [] rest = rw some refl
properties_skipped words names skipped some (property ∷ later) rest = rw some (properties_skipped words names skipped some later rest)

-- all that a node has itself,
own_skipped : (words : List Ignored) (names : List (List ℕ)) (skipped : ℕ) → (skipped == 0) ≡ false → (own : ComparedNode)
    (rest : List EntryModel) → kept_entries words names skipped (own_entries own ++ rest) ≡ kept_entries words names skipped rest
own_skipped words names skipped some own rest = by own.payload
  where
    by : (payload : ComparedPayload) →
        kept_entries words names skipped ((payload_entries payload ++ property_entries own.properties) ++ rest)
        ≡ kept_entries words names skipped rest
    by NoImage = rw some (properties_skipped words names skipped some (entries own.properties) rest)
    by (ImageWith payload) = rw some (properties_skipped words names skipped some (entries own.properties) rest)

-- The entries of a node are those that begin it, those of its children, and its end.
abbrev pub after_own : Nodes ComparedNode → Nodes ComparedNode → List EntryModel → List EntryModel
after_own children later rest = node_entries children ++ (NodeEnds ∷ (node_entries later ++ rest))

pub in_turn : (own : ComparedNode) (children later : Nodes ComparedNode) (rest : List EntryModel) →
    (own_entries own ++ (node_entries children ++ (NodeEnds ∷ node_entries later))) ++ rest
    ≡ own_entries own ++ after_own children later rest
in_turn own children later rest =
    append_assoc (own_entries own) (node_entries children ++ (NodeEnds ∷ node_entries later)) rest
    ∙ ap (λ others. own_entries own ++ others) (append_assoc (node_entries children) (NodeEnds ∷ node_entries later) rest)

-- the end of a node,
end_skipped : (words : List Ignored) (names : List (List ℕ)) (name : List ℕ) (skipped : ℕ) (rest : List EntryModel) →
    kept_entries words (names ++ name ∷ []) (skipped + 1) (NodeEnds ∷ rest) ≡ kept_entries words names skipped rest
end_skipped words names name skipped rest =
    let left : skipped + 1 - 1 ≡ skipped = omega arith in
    rw (one_more skipped)
    (ap₂ (λ (names : List (List ℕ)) (skipped : ℕ). kept_entries words names skipped rest) (names_above names name) left)

-- and nodes.
nodes_skipped : (words : List Ignored) (names : List (List ℕ)) (skipped : ℕ) → (skipped == 0) ≡ false → (nodes : Nodes ComparedNode)
    (rest : List EntryModel) → kept_entries words names skipped (node_entries nodes ++ rest) ≡ kept_entries words names skipped rest
nodes_skipped words names skipped some none rest = refl
nodes_skipped words names skipped some (node name own children later) rest =
    let inner : List (List ℕ) = names ++ name ∷ [] in
    let more = one_more skipped in
    rw some
    (ap (kept_entries words inner (skipped + 1)) (in_turn own children later rest)
    ∙ own_skipped words inner (skipped + 1) more own (after_own children later rest)
    ∙ nodes_skipped words inner (skipped + 1) more children (NodeEnds ∷ (node_entries later ++ rest))
    ∙ end_skipped words names name skipped (node_entries later ++ rest)
    ∙ nodes_skipped words names skipped some later rest)

-- ---- nodes that stay

-- The properties that stay,
properties_stay : (words : List Ignored) (names : List (List ℕ)) (properties : List Property) (rest : List EntryModel) →
    kept_entries words names 0 ((map PropertyEntry properties ++ ChildrenBegin ∷ []) ++ rest)
    ≡ (map PropertyEntry (where_key (slice_cmp nat_cmp) (λ name. not (is_property_ignored words names name)) properties)
    ++ ChildrenBegin ∷ []) ++ kept_entries words names 0 rest
properties_stay words names [] rest = refl
properties_stay words names (property ∷ later) rest =
    by (is_property_ignored words names property.0) refl (properties_stay words names later rest)
  where
    by : (b : Bool) → is_property_ignored words names property.0 ≡ b →
        kept_entries words names 0 ((map PropertyEntry later ++ ChildrenBegin ∷ []) ++ rest)
        ≡ (map PropertyEntry (where_key (slice_cmp nat_cmp) (λ name. not (is_property_ignored words names name)) later)
        ++ ChildrenBegin ∷ []) ++ kept_entries words names 0 rest →
        kept_entries words names 0 ((map PropertyEntry (property ∷ later) ++ ChildrenBegin ∷ []) ++ rest)
        ≡ (map PropertyEntry
        (where_key (slice_cmp nat_cmp) (λ name. not (is_property_ignored words names name)) (property ∷ later))
        ++ ChildrenBegin ∷ []) ++ kept_entries words names 0 rest
    by true is after = rw is after
    by false is after = rw is (ap (λ entries. PropertyEntry property ∷ entries) after)

-- what stays of a node itself,
own_stays : (words : List Ignored) (names : List (List ℕ)) (own : ComparedNode) (rest : List EntryModel) →
    kept_entries words names 0 (own_entries own ++ rest) ≡ own_entries (kept_own words names own) ++ kept_entries words names 0 rest
own_stays words names own rest = by own.payload
  where
    properties : kept_entries words names 0 ((map PropertyEntry (entries own.properties) ++ ChildrenBegin ∷ []) ++ rest)
        ≡ (map PropertyEntry (entries (kept_properties words names own.properties)) ++ ChildrenBegin ∷ [])
        ++ kept_entries words names 0 rest
    properties = properties_stay words names (entries own.properties) rest
        ∙ ap (λ (kept : List Property). (map PropertyEntry kept ++ ChildrenBegin ∷ []) ++ kept_entries words names 0 rest)
        (sym (entries_kept own.properties (λ name. not (is_property_ignored words names name))))

    by : (payload : ComparedPayload) →
        kept_entries words names 0 ((payload_entries payload ++ property_entries own.properties) ++ rest)
        ≡ (payload_entries payload ++ property_entries (kept_properties words names own.properties)) ++ kept_entries words names 0 rest
    by NoImage = ap (λ entries. PropertiesBegin ∷ entries) properties
    by (ImageWith payload) = ap (λ entries. PayloadEntry payload ∷ PropertiesBegin ∷ entries) properties

-- and nodes.
pub nodes_stay : (words : List Ignored) (above : List (List ℕ)) (nodes : Nodes ComparedNode) (rest : List EntryModel) →
    kept_entries words above 0 (node_entries nodes ++ rest) ≡ node_entries (kept_nodes words above nodes) ++ kept_entries words above 0 rest
nodes_stay words above none rest = refl
nodes_stay words above (node name own children later) rest =
    by (is_node_ignored words inner) refl (nodes_stay words inner children below) (nodes_stay words above later rest)
  where
    inner : List (List ℕ)
    inner = above ++ name ∷ []

    below : List EntryModel
    below = NodeEnds ∷ (node_entries later ++ rest)

    kept : Nodes ComparedNode
    kept = kept_nodes words inner children

    left_out : kept_entries words inner 1 ((own_entries own ++ (node_entries children ++ (NodeEnds ∷ node_entries later))) ++ rest)
        ≡ kept_entries words above 0 (node_entries later ++ rest)
    left_out =
        ap (kept_entries words inner 1) (in_turn own children later rest)
        ∙ own_skipped words inner 1 refl own (after_own children later rest)
        ∙ nodes_skipped words inner 1 refl children below
        ∙ end_skipped words above name 0 (node_entries later ++ rest)

    stays : kept_entries words inner 0 (node_entries children ++ below) ≡ node_entries kept ++ kept_entries words inner 0 below →
        kept_entries words above 0 (node_entries later ++ rest)
        ≡ node_entries (kept_nodes words above later) ++ kept_entries words above 0 rest →
        kept_entries words inner 0 ((own_entries own ++ (node_entries children ++ (NodeEnds ∷ node_entries later))) ++ rest)
        ≡ (own_entries (kept_own words inner own) ++ (node_entries kept ++ (NodeEnds ∷ node_entries (kept_nodes words above later))))
        ++ kept_entries words above 0 rest
    stays in_children in_later =
        ap (kept_entries words inner 0) (in_turn own children later rest)
        ∙ own_stays words inner own (after_own children later rest)
        ∙ ap (λ others. own_entries (kept_own words inner own) ++ others)
        (in_children
        ∙ ap (λ others. node_entries kept ++ (NodeEnds ∷ others))
        (ap (λ names. kept_entries words names 0 (node_entries later ++ rest)) (names_above above name) ∙ in_later))
        ∙ sym (in_turn (kept_own words inner own) kept (kept_nodes words above later) (kept_entries words above 0 rest))

    by : (b : Bool) → is_node_ignored words (above ++ name ∷ []) ≡ b →
        kept_entries words inner 0 (node_entries children ++ below) ≡ node_entries kept ++ kept_entries words inner 0 below →
        kept_entries words above 0 (node_entries later ++ rest)
        ≡ node_entries (kept_nodes words above later) ++ kept_entries words above 0 rest →
        kept_entries words above 0 (node_entries (node name own children later) ++ rest)
        ≡ node_entries (kept_nodes words above (node name own children later)) ++ kept_entries words above 0 rest
    by true is in_children in_later = rw is (left_out ∙ in_later)
    by false is in_children in_later = rw is (ap (λ entries. NodeBegins name ∷ entries) (stays in_children in_later))

-- The entries of a root that stay, if the root does.
pub root_stays : (words : List Ignored) (root : Root ComparedNode) →
    kept_entries words [] 0 (own_entries root.own ++ node_entries root.children)
    ≡ own_entries (kept_own words [] root.own) ++ node_entries (kept_nodes words [] root.children)
root_stays words root =
    own_stays words [] root.own (node_entries root.children)
    ∙ ap (λ others. own_entries (kept_own words [] root.own) ++ others)
    (ap (kept_entries words [] 0) (sym (append-nil (node_entries root.children)))
    ∙ nodes_stay words [] root.children []
    ∙ append-nil (node_entries (kept_nodes words [] root.children)))

-- What stays of the entries of a tree, if its root does, are those of what stays of it.
pub kept_root_entries : (words : List Ignored) (root : Root ComparedNode) (made : List EntryModel) →
    made ≡ own_entries root.own ++ node_entries root.children →
    (if is_node_ignored words [] then None else Some (kept_entries words [] 0 made)) ≡ root_entries (kept_root words root)
kept_root_entries words root made is = by (is_node_ignored words []) refl
  where
    by : (b : Bool) → is_node_ignored words [] ≡ b →
        (if is_node_ignored words [] then None else Some (kept_entries words [] 0 made)) ≡ root_entries (kept_root words root)
    by true ignored = rw ignored refl
    by false ignored = rw ignored (ap Some (ap (kept_entries words [] 0) is ∙ root_stays words root))

-- One more entry.
pub entry_next : (words : List Ignored) (names now : List (List ℕ)) (skipped next : ℕ) (entry : EntryModel)
    (later kept more all : List EntryModel) → now ≡ open_after names entry → more ≡ kept ++ kept_entry words now skipped entry →
    next ≡ skipped_after words now skipped entry → kept ++ kept_entries words names skipped (entry ∷ later) ≡ all →
    more ++ kept_entries words now next later ≡ all
entry_next words names now skipped next entry later kept more all is_now is_more is_next left =
    ap₂ (λ (more : List EntryModel) (next : ℕ). more ++ kept_entries words now next later) is_more is_next
    ∙ append_assoc kept (kept_entry words now skipped entry) (kept_entries words now (skipped_after words now skipped entry) later)
    ∙ ap (λ (now : List (List ℕ)). kept ++ (kept_entry words now skipped entry
    ++ kept_entries words now (skipped_after words now skipped entry) later)) is_now
    ∙ left

-- No entry opens more than one node.
pub skipped_few : (words : List Ignored) (names : List (List ℕ)) (skipped : ℕ) (entry : EntryModel) →
    skipped_after words names skipped entry ≤ skipped + 1
skipped_few words names skipped (NodeBegins name) = by (is_entry_kept words names skipped (NodeBegins name))
  where
    by : (b : Bool) → (if b then 0 else skipped + 1) ≤ skipped + 1
    by true = omega arith
    by false = omega arith
skipped_few words names skipped NodeEnds = omega arith
skipped_few words names skipped (PayloadEntry payload) = omega arith
skipped_few words names skipped PropertiesBegin = omega arith
skipped_few words names skipped (PropertyEntry property) = omega arith
skipped_few words names skipped ChildrenBegin = omega arith
