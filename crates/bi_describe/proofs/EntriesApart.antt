use Rattle.std.proofs.Common.{◌≡◌, ◌↔◌, ℕ, List, [], ◌∷◌, ◌++◌, Option, None, Some, map, refl, sym, ap, ap₂, ◌∙◌}
use Rattle.std.specs.FinMap.{entries, same_entries_map}
use Rattle.bi_blob.specs.Tree.{Nodes, none, node, Property, Root}
use Rattle.bi_fit.proofs.Meanings.{same_in_some}
use Rattle.bi_common.proofs.ReadableWords.Cuts.{first_same, later_same}
use Rattle.bi_describe.specs.ComparedNodes.{ComparedNode, ComparedPayload, NoImage, ImageWith}
use Rattle.bi_describe.specs.KeptEntries.{root_entries}
use Rattle.bi_describe.specs.TreeEntries.{EntryModel, NodeBegins, NodeEnds, PayloadEntry, PropertiesBegin, PropertyEntry}
use Rattle.bi_describe.specs.TreeEntries.{ChildrenBegin, node_entries, own_entries, payload_entries, property_entries}
use Rattle.bi_describe.proofs.KeptNodes.{in_turn}

-- Trees with the same entries are the same.

same_property : (one other : Property) → PropertyEntry one ≡ PropertyEntry other → one ≡ other
same_property one other same = cc

same_bytes : (one other : Option (List ℕ)) → PayloadEntry one ≡ PayloadEntry other → one ≡ other
same_bytes one other same = cc

same_name : (one other : List ℕ) → NodeBegins one ≡ NodeBegins other → one ≡ other
same_name one other same = cc

-- Properties, and what follows them.
properties_apart : (one other : List Property) (x y : List EntryModel) →
    (map PropertyEntry one ++ ChildrenBegin ∷ []) ++ x ≡ (map PropertyEntry other ++ ChildrenBegin ∷ []) ++ y → (one ≡ other) × (x ≡ y)
properties_apart [] [] x y same = (refl, later_same same)
properties_apart [] (q ∷ other) x y same = absurd cc
properties_apart (p ∷ one) [] x y same = absurd cc
properties_apart (p ∷ one) (q ∷ other) x y same =
    let rest = properties_apart one other x y (later_same same) in
    (ap₂ (λ (first : Property) later. first ∷ later) (same_property p q (first_same same)) rest.0, rest.1)

-- What a node has itself, and what follows that.
own_apart : (one other : ComparedNode) (x y : List EntryModel) → own_entries one ++ x ≡ own_entries other ++ y → (one ≡ other) × (x ≡ y)
own_apart one other x y same =
    let parts = by one.payload other.payload same in
    ((λ i. record { properties = parts.0.0 i; payload = parts.0.1 i }), parts.1)
  where
    by : (payload other_payload : ComparedPayload) →
        (payload_entries payload ++ property_entries one.properties) ++ x
        ≡ (payload_entries other_payload ++ property_entries other.properties) ++ y →
        ((one.properties ≡ other.properties) × (payload ≡ other_payload)) × (x ≡ y)
    by NoImage NoImage same =
        let rest = properties_apart (entries one.properties) (entries other.properties) x y (later_same same) in
        ((same_entries_map _ _ rest.0, refl), rest.1)
    by NoImage (ImageWith q) same = absurd cc
    by (ImageWith p) NoImage same = absurd cc
    by (ImageWith p) (ImageWith q) same =
        let rest = properties_apart (entries one.properties) (entries other.properties) x y (later_same (later_same same)) in
        ((same_entries_map _ _ rest.0, ap ImageWith (same_bytes p q (first_same same))), rest.1)

-- Nodes, and what follows the end of the node that they are in.
nodes_apart : (one other : Nodes ComparedNode) (x y : List EntryModel) →
    node_entries one ++ (NodeEnds ∷ x) ≡ node_entries other ++ (NodeEnds ∷ y) → (one ≡ other) × (x ≡ y)
nodes_apart none none x y same = (refl, later_same same)
nodes_apart none (node name own children later) x y same = absurd cc
nodes_apart (node name own children later) none x y same = absurd cc
nodes_apart (node name own children later) (node other_name other_own other_children other_later) x y same =
    let names = same_name name other_name (first_same same) in
    let rest = own_apart own other_own _ _ (sym (in_turn own children later (NodeEnds ∷ x)) ∙ later_same same
    ∙ in_turn other_own other_children other_later (NodeEnds ∷ y)) in
    let below = nodes_apart children other_children (node_entries later ++ (NodeEnds ∷ x)) (node_entries other_later ++ (NodeEnds ∷ y))
    rest.1 in
    let after = nodes_apart later other_later x y below.1 in
    (whole names rest.0 below.0 after.0, after.1)
  where
    whole : {a b : List ℕ} {c d : ComparedNode} {e f g h : Nodes ComparedNode} → a ≡ b → c ≡ d → e ≡ f → g ≡ h →
        node a c e g ≡ node b d f h
    whole p q r s = cc

-- Roots with the same entries are the same.
pub roots_apart : (one other : Option (Root ComparedNode)) → root_entries one ≡ root_entries other → one ≡ other
roots_apart None None same = refl
roots_apart None (Some root) same = absurd cc
roots_apart (Some root) None same = absurd cc
roots_apart (Some root) (Some other) same =
    let rest = own_apart root.own other.own (node_entries root.children) (node_entries other.children)
    (same_in_some (own_entries root.own ++ node_entries root.children) (own_entries other.own ++ node_entries other.children) same) in
    let nodes = nodes_apart root.children other.children [] [] (ap (λ entries. entries ++ (NodeEnds ∷ [])) rest.1) in
    (λ i. Some (record { own = rest.0 i; children = nodes.0 i }))
