use Rattle.std.proofs.Common.{◌≡◌, ℕ, ◌+◌, ◌≤◌, List, [], ◌∷◌, ◌++◌, flat_map, length, map, None, Some, refl, sym, ap, ap₂, ◌∙◌, arith}
use Rattle.std.proofs.Common.{append_assoc, length-append}
use Rattle.std.specs.Prelude.{⊤}
use Rattle.std.specs.FinMap.{entries, same_entries_map}
use Rattle.std.specs.List.{AllByRecursion}
use Rattle.std.proofs.lemmas.Grind.{flat_map-append}
use Rattle.std.proofs.lemmas.List.{append_cancel_left, map-append}
use Rattle.bi_base.proofs.ListMembers.{each-append, each-map}
use Rattle.bi_blob.specs.Blob.{Reservation}
use Rattle.bi_blob.specs.Tree.{Nodes, none, node, IsChildName, Property}
use Rattle.bi_fit.specs.File.{IsFitFile}
use Rattle.bi_fit.specs.ImageTree.{ImageTree}
use Rattle.bi_fit.proofs.TextLaws.{file_means_image_tree}
use Rattle.bi_common.specs.CommonLines.{reservation_line}
use Rattle.bi_common.specs.Lines.{Line}
use Rattle.bi_common.proofs.ReadableWords.Cuts.{first_same, later_same}
use Rattle.bi_describe.specs.Descriptions.{DescribedNode, NodePayload, NotAnImage, OfImage, described_nodes, fit_lines, node_lines}
use Rattle.bi_describe.specs.Descriptions.{own_lines}
use Rattle.bi_describe.specs.Descriptions.{node_line, payload_lines, plain_node, property_line}
use Rattle.bi_describe.proofs.ReadableDescriptions.Items.{Item, KindItem, ProcessorItem, ReservationItem, NodeItem, PayloadItem}
use Rattle.bi_describe.proofs.ReadableDescriptions.Items.{PropertyItem}
use Rattle.bi_describe.proofs.ReadableDescriptions.Items.{CanBeRead, item_line}
use Rattle.bi_describe.proofs.ShownNodes.{AreShown, IsShownPayload, all_shown}

-- A flattened image tree is read back from its items.

-- ---- nodes, each with the names on the way to it

abbrev pub PlacedNode : Type 0
PlacedNode = List (List ℕ) × DescribedNode

-- Nodes, each before its children.
abbrev pub placed_nodes : (above : List (List ℕ)) → Nodes DescribedNode → List PlacedNode
placed_nodes above none = []
placed_nodes above (node name own children later) =
    (above ++ name ∷ [], own) ∷ (placed_nodes (above ++ name ∷ []) children ++ placed_nodes above later)

-- The first of these nodes, if there is one, is at most at this depth.
abbrev IsOutside : (depth : ℕ) → List PlacedNode → Type 0
IsOutside depth [] = ⊤
IsOutside depth (first ∷ later) = length first.0 ≤ depth

outside_more : (depth : ℕ) (nodes : List PlacedNode) → IsOutside depth nodes → IsOutside (depth + 1) nodes
outside_more depth [] is = tt
outside_more depth (first ∷ later) is = omega (arith, is)

outside_later : (above : List (List ℕ)) (name : List ℕ) (later : Nodes DescribedNode) (rest : List PlacedNode) →
    IsOutside (length above) rest → IsOutside (length (above ++ name ∷ [])) (placed_nodes above later ++ rest)
outside_later above name none [] is = tt
outside_later above name none (first ∷ later) is = omega (arith, is, length-append above (name ∷ []))
outside_later above name (node second own children later) rest is =
    omega (arith, length-append above (name ∷ []), length-append above (second ∷ []))

not_outside : (above : List (List ℕ)) (name : List ℕ) (own : DescribedNode) (nodes later : List PlacedNode) →
    IsOutside (length above) nodes → nodes ≡ (above ++ name ∷ [], own) ∷ later → ⊥
not_outside above name own [] later is same = cc
not_outside above name own (first ∷ rest) later is same =
    omega (arith, is, ap (λ (one : PlacedNode). length one.0) (first_same same), length-append above (name ∷ []))

-- Nodes are read back from them, and from those after them.
same_nodes : (above : List (List ℕ)) (one other : Nodes DescribedNode) (x y : List PlacedNode) → IsOutside (length above) x →
    IsOutside (length above) y → placed_nodes above one ++ x ≡ placed_nodes above other ++ y → (one ≡ other) × (x ≡ y)
same_nodes above none none x y out outer same = (refl, same)
same_nodes above none (node name own children later) x y out outer same = absurd (not_outside above name own x _ out same)
same_nodes above (node name own children later) none x y out outer same = absurd (not_outside above name own y _ outer (sym same))
same_nodes above (node name own children later) (node other_name other_own other_children other_later) x y out outer same =
    let first = first_same same in
    let inner : List (List ℕ) = above ++ name ∷ [] in
    let names : name ≡ other_name = first_same (append_cancel_left above (name ∷ []) (other_name ∷ [])
    (ap (λ (one : PlacedNode). one.0) first)) in
    let owns : own ≡ other_own = ap (λ (one : PlacedNode). one.1) first in
    let rest : placed_nodes inner children ++ (placed_nodes above later ++ x)
    ≡ placed_nodes inner other_children ++ (placed_nodes above other_later ++ y) =
    sym (append_assoc (placed_nodes inner children) (placed_nodes above later) x) ∙ later_same same
    ∙ append_assoc (placed_nodes (above ++ other_name ∷ []) other_children) (placed_nodes above other_later) y
    ∙ ap (λ n. placed_nodes (above ++ n ∷ []) other_children ++ (placed_nodes above other_later ++ y)) (sym names) in
    let below = same_nodes inner children other_children (placed_nodes above later ++ x) (placed_nodes above other_later ++ y)
    (outside_later above name later x out) (outside_later above name other_later y outer) rest in
    let after = same_nodes above later other_later x y out outer below.1 in
    (whole names owns below.0 after.0, after.1)
  where
    whole : {a b : List ℕ} {c d : DescribedNode} {e f g h : Nodes DescribedNode} → a ≡ b → c ≡ d → e ≡ f → g ≡ h →
        node a c e g ≡ node b d f h
    whole p q r s = cc

-- ---- items

abbrev payload_items : (names : List (List ℕ)) → NodePayload → List Item
payload_items names NotAnImage = []
payload_items names (OfImage payload) = PayloadItem names payload ∷ []

abbrev own_items : PlacedNode → List Item
own_items placed =
    NodeItem placed.0 ∷ (payload_items placed.0 placed.1.payload ++ map (PropertyItem placed.0) (entries placed.1.properties))

-- The nodes of a tree, the root first.
abbrev all_nodes : ImageTree → List PlacedNode
all_nodes tree =
    ([], plain_node tree.root.own) ∷ placed_nodes [] (described_nodes tree.root.children tree.payloads)

abbrev pub items_of_nodes : ImageTree → List Item
items_of_nodes tree =
    KindItem ∷ ProcessorItem tree.cpu ∷ (map ReservationItem tree.reservations ++ flat_map own_items (all_nodes tree))

-- Their lines are those of the tree.
properties_lined : (names : List (List ℕ)) (properties : List Property) →
    map item_line (map (PropertyItem names) properties) ≡ map (property_line names) properties
properties_lined names [] = refl
properties_lined names (property ∷ later) = ap (λ (lines : List Line). property_line names property ∷ lines) (properties_lined names later)

own_lined : (names : List (List ℕ)) (own : DescribedNode) → map item_line (own_items (names, own)) ≡ own_lines names own
own_lined names own = ap (λ (lines : List Line). node_line names ∷ lines) (by own.payload)
  where
    by : (payload : NodePayload) → map item_line (payload_items names payload ++ map (PropertyItem names) (entries own.properties))
        ≡ payload_lines names payload ++ map (property_line names) (entries own.properties)
    by NotAnImage = properties_lined names (entries own.properties)
    by (OfImage payload) =
        ap (λ (lines : List Line). item_line (PayloadItem names payload) ∷ lines) (properties_lined names (entries own.properties))

nodes_lined : (above : List (List ℕ)) (nodes : Nodes DescribedNode) →
    map item_line (flat_map own_items (placed_nodes above nodes)) ≡ node_lines above nodes
nodes_lined above none = refl
nodes_lined above (node name own children later) =
    let inner : List (List ℕ) = above ++ name ∷ [] in
    let below : List PlacedNode = placed_nodes inner children in
    let after : List PlacedNode = placed_nodes above later in
    map-append item_line (own_items (inner, own)) (flat_map own_items (below ++ after))
    ∙ ap₂ (λ (one other : List Line). one ++ other) (own_lined inner own)
    (ap (map item_line) (flat_map-append own_items below after)
    ∙ map-append item_line (flat_map own_items below) (flat_map own_items after)
    ∙ ap₂ (λ (one other : List Line). one ++ other) (nodes_lined inner children) (nodes_lined above later))

reservations_lined : (reservations : List Reservation) →
    map item_line (map ReservationItem reservations) ≡ map reservation_line reservations
reservations_lined [] = refl
reservations_lined (reservation ∷ later) = ap (λ (lines : List Line). reservation_line reservation ∷ lines) (reservations_lined later)

pub tree_lined : (tree : ImageTree) → map item_line (items_of_nodes tree) ≡ fit_lines tree
tree_lined tree =
    let own : List Item = own_items ([], plain_node tree.root.own) in
    let below : List PlacedNode = placed_nodes [] (described_nodes tree.root.children tree.payloads) in
    ap (λ (lines : List Line). item_line KindItem ∷ item_line (ProcessorItem tree.cpu) ∷ lines)
    (map-append item_line (map ReservationItem tree.reservations) (own ++ flat_map own_items below)
    ∙ ap₂ (λ (one other : List Line). one ++ other) (reservations_lined tree.reservations)
    (map-append item_line own (flat_map own_items below)
    ∙ ap₂ (λ (one other : List Line). one ++ other) (own_lined [] (plain_node tree.root.own))
    (nodes_lined [] (described_nodes tree.root.children tree.payloads))))

-- ---- reading items from the last to the first

-- What was read: reservations, what the next node before it has, and the nodes.
record Read : Type 0 where
  reservations : List Reservation
  properties : List Property
  payload : NodePayload
  nodes : List (List (List ℕ) × (List Property × NodePayload))

abbrev read : List Item → Read
read [] = record { reservations = []; properties = []; payload = NotAnImage; nodes = [] }
read (ReservationItem reservation ∷ later) =
    let after = read later in
    record after { reservations = reservation ∷ after.reservations }
read (NodeItem names ∷ later) =
    let after = read later in
    record after { properties = []; payload = NotAnImage; nodes = (names, (after.properties, after.payload)) ∷ after.nodes }
read (PayloadItem names payload ∷ later) = record (read later) { payload = OfImage payload }
read (PropertyItem names property ∷ later) =
    let after = read later in
    record after { properties = property ∷ after.properties }
read (item ∷ later) = read later

-- What a node has is read,
abbrev read_node : PlacedNode → List (List ℕ) × (List Property × NodePayload)
read_node placed = (placed.0, (entries placed.1.properties, placed.1.payload))

abbrev only_nodes : List PlacedNode → Read
only_nodes nodes = record { reservations = []; properties = []; payload = NotAnImage; nodes = map read_node nodes }

properties_read : (names : List (List ℕ)) (properties : List Property) (later : List Item) (nodes : List PlacedNode) →
    read later ≡ only_nodes nodes →
    read (map (PropertyItem names) properties ++ later) ≡ record (only_nodes nodes) { properties = properties }
properties_read names [] later nodes is = is
properties_read names (property ∷ properties) later nodes is =
    ap (λ (after : Read). record after { properties = property ∷ after.properties }) (properties_read names properties later nodes is)

own_read : (placed : PlacedNode) (later : List Item) (nodes : List PlacedNode) → read later ≡ only_nodes nodes →
    read (own_items placed ++ later) ≡ only_nodes (placed ∷ nodes)
own_read (names, own) later nodes is = ap (λ (after : Read). record after {
  properties = [];
  payload = NotAnImage;
  nodes = (names, (after.properties, after.payload)) ∷ after.nodes;
}) (by own.payload)
  where
    by : (payload : NodePayload) → read ((payload_items names payload ++ map (PropertyItem names) (entries own.properties)) ++ later)
        ≡ record (only_nodes nodes) { properties = entries own.properties; payload = payload }
    by NotAnImage = properties_read names (entries own.properties) later nodes is
    by (OfImage payload) = ap (λ (after : Read). record after { payload = OfImage payload })
        (properties_read names (entries own.properties) later nodes is)

nodes_read : (nodes : List PlacedNode) → read (flat_map own_items nodes) ≡ only_nodes nodes
nodes_read [] = refl
nodes_read (placed ∷ later) = own_read placed (flat_map own_items later) later (nodes_read later)

-- and so are the reservations before the nodes.
reservations_read : (reservations : List Reservation) (nodes : List PlacedNode) →
    read (map ReservationItem reservations ++ flat_map own_items nodes) ≡ record (only_nodes nodes) { reservations = reservations }
reservations_read [] nodes = nodes_read nodes
reservations_read (reservation ∷ later) nodes =
    ap (λ (after : Read). record after { reservations = reservation ∷ after.reservations }) (reservations_read later nodes)

same_placed : (one other : PlacedNode) → read_node one ≡ read_node other → one ≡ other
same_placed (names, own) (other_names, other_own) same =
    let parts = ap (λ (read : List (List ℕ) × (List Property × NodePayload)). read.1) same in
    ap₂ (λ (names : List (List ℕ)) (own : DescribedNode). (names, own))
    (ap (λ (read : List (List ℕ) × (List Property × NodePayload)). read.0) same)
    (ap₂ (λ properties payload. record { properties = properties; payload = payload })
    (same_entries_map own.properties other_own.properties (ap (λ (part : List Property × NodePayload). part.0) parts))
    (ap (λ (part : List Property × NodePayload). part.1) parts))

all_placed : (one other : List PlacedNode) → map read_node one ≡ map read_node other → one ≡ other
all_placed [] [] same = refl
all_placed [] (b ∷ other) same = absurd cc
all_placed (a ∷ one) [] same = absurd cc
all_placed (a ∷ one) (b ∷ other) same =
    ap₂ (λ (placed : PlacedNode) later. placed ∷ later) (same_placed a b (first_same same)) (all_placed one other (later_same same))

-- Trees with the same items have the same parts.
pub record SameParts (one other : ImageTree) : Type 0 where
  pub cpu : one.cpu ≡ other.cpu
  pub reservations : one.reservations ≡ other.reservations
  pub own : plain_node one.root.own ≡ plain_node other.root.own
  pub nodes : described_nodes one.root.children one.payloads ≡ described_nodes other.root.children other.payloads

pub same_parts : (one other : ImageTree) → items_of_nodes one ≡ items_of_nodes other → SameParts one other
same_parts one other same =
    let both = sym (reservations_read one.reservations (all_nodes one)) ∙ ap read (later_same (later_same same))
    ∙ reservations_read other.reservations (all_nodes other) in
    let nodes = all_placed (all_nodes one) (all_nodes other) (ap (λ (read : Read). read.nodes) both) in
    record {
      cpu = let first = first_same (later_same same) in cc;
      reservations = ap (λ (read : Read). read.reservations) both;
      own = ap (λ (placed : PlacedNode). placed.1) (first_same nodes);
      nodes = (same_nodes [] (described_nodes one.root.children one.payloads)
          (described_nodes other.root.children other.payloads) [] [] tt tt
          (ap (λ (nodes : List PlacedNode). nodes ++ []) (later_same nodes))).0;
    }

-- ---- items of a file can be read back

properties_readable : (names : List (List ℕ)) → AllByRecursion IsChildName names → (properties : List Property) →
    AllByRecursion CanBeRead (map (PropertyItem names) properties)
properties_readable names are [] = tt
properties_readable names are (property ∷ later) = (are, properties_readable names are later)

own_readable : (names : List (List ℕ)) → AllByRecursion IsChildName names → (own : DescribedNode) → IsShownPayload own.payload →
    AllByRecursion CanBeRead (own_items (names, own))
own_readable names are own shown = (are, by own.payload shown)
  where
    properties : AllByRecursion CanBeRead (map (PropertyItem names) (entries own.properties))
    properties = properties_readable names are (entries own.properties)

    by : (payload : NodePayload) → IsShownPayload payload →
        AllByRecursion CanBeRead (payload_items names payload ++ map (PropertyItem names) (entries own.properties))
    by NotAnImage shown = properties
    by (OfImage None) shown = ((are, tt), properties)
    by (OfImage (Some digest)) shown = ((are, shown.small), properties)

placed_readable : (above : List (List ℕ)) → AllByRecursion IsChildName above → (nodes : Nodes DescribedNode) → AreShown nodes →
    AllByRecursion CanBeRead (flat_map own_items (placed_nodes above nodes))
placed_readable above are none shown = tt
placed_readable above are (node name own children later) shown =
    let inner : List (List ℕ) = above ++ name ∷ [] in
    let down : AllByRecursion IsChildName inner = each-append IsChildName above (name ∷ []) are (shown.0.is_name, tt) in
    let below : List PlacedNode = placed_nodes inner children in
    let after : List PlacedNode = placed_nodes above later in
    each-append CanBeRead (own_items (inner, own)) (flat_map own_items (below ++ after)) (own_readable inner down own shown.0.payload)
    (rw (flat_map-append own_items below after) (each-append CanBeRead (flat_map own_items below) (flat_map own_items after)
    (placed_readable inner down children shown.1) (placed_readable above are later shown.2)))

pub tree_readable : (file : List ℕ) (tree : ImageTree) → IsFitFile file tree → AllByRecursion CanBeRead (items_of_nodes tree)
tree_readable file tree is =
    let good = file_means_image_tree file tree is in
    let own : List Item = own_items ([], plain_node tree.root.own) in
    let below : List PlacedNode = placed_nodes [] (described_nodes tree.root.children tree.payloads) in (
      tt,
      (
        omega (arith, good.cpu_fits),
        each-append CanBeRead (map ReservationItem tree.reservations) (own ++ flat_map own_items below)
            (each-map CanBeRead ReservationItem tree.reservations good.are_reservations)
            (each-append CanBeRead own (flat_map own_items below) (own_readable [] tt (plain_node tree.root.own) tt)
            (placed_readable [] tt (described_nodes tree.root.children tree.payloads) (all_shown file tree is))),
      ),
    )
