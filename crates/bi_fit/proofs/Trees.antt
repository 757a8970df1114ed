use Rattle.std.proofs.Common.{◌≡◌, ℕ, ◌+◌, Bool, true, false, List, map, bytes_eq, Some, refl, sym, ap, subst, rules}
use Rattle.std.specs.Option.{option_map}
use Rattle.bi_blob.specs.Tree.{Nodes, none, node, Property, with_each}
use Rattle.bi_blob.specs.Events.{NodeStart, NodeProperty, events}
use Rattle.bi_blob.specs.Layout.{event_width, place_after_events, with_places}
use Rattle.bi_fit.proofs.Meanings.{same_in_some}
use Rattle.bi_fit.specs.ImageTree.{children_of, with_children_of}

-- The children of a node are found by its name in nodes with other properties, places or children, and are the same after they are changed
-- and changed back.

-- What is found in nodes that differ in what each has itself.
pub children_of-with_each : {A B : Type 0} (change : A → B) (wanted : List ℕ) (nodes : Nodes A) →
    children_of wanted (with_each change nodes) ≡ option_map (with_each change) (children_of wanted nodes)
children_of-with_each change wanted none = refl
children_of-with_each change wanted (node name own children later) = search (rules, children_of-with_each change wanted later)

-- What is found in nodes with places is what is found without, at some place.
pub children_of-with_places : (at : ℕ) (wanted : List ℕ) (nodes inner : Nodes (List Property)) → children_of wanted nodes ≡ Some inner →
    (place : ℕ) × (children_of wanted (with_places at nodes) ≡ Some (with_places place inner))
children_of-with_places at wanted none inner has = absurd cc
children_of-with_places at wanted (node name properties children later) inner has =
    where_first (bytes_eq name wanted) refl has (λ has. children_of-with_places next wanted later inner has)
  where
    below : ℕ
    below = place_after_events (at + event_width (NodeStart name)) (map NodeProperty properties)

    next : ℕ
    next = place_after_events at (events (node name properties children none))

    Found : Type 0
    Found = (place : ℕ) × (children_of wanted (with_places at (node name properties children later)) ≡ Some (with_places place inner))

    where_first : (b : Bool) → bytes_eq name wanted ≡ b → children_of wanted (node name properties children later) ≡ Some inner →
        (children_of wanted later ≡ Some inner →
        (place : ℕ) × (children_of wanted (with_places next later) ≡ Some (with_places place inner))) → Found
    where_first true is has rest =
        let same : Some children ≡ Some inner = rw is at has in
        (below, rw is (ap (option_map (with_places below)) same))
    where_first false is has rest =
        let found = rest (rw is at has) in
        (found.0, rw is found.1)

module _ {Own : Type 0} (wanted : List ℕ) where
  -- What is found in nodes with other children there.
  pub children_of-with_children_of : (change : Nodes Own → Nodes Own) (nodes inner : Nodes Own) → children_of wanted nodes ≡ Some inner →
      children_of wanted (with_children_of wanted change nodes) ≡ Some (change inner)
  children_of-with_children_of change none inner has = absurd cc
  children_of-with_children_of change (node name own children later) inner has =
      where_first (bytes_eq name wanted) refl has (λ has. children_of-with_children_of change later inner has)
    where
      where_first : (b : Bool) → bytes_eq name wanted ≡ b → children_of wanted (node name own children later) ≡ Some inner →
          (children_of wanted later ≡ Some inner → children_of wanted (with_children_of wanted change later) ≡ Some (change inner)) →
          children_of wanted (with_children_of wanted change (node name own children later)) ≡ Some (change inner)
      where_first true is has rest =
          let same : Some children ≡ Some inner = rw is at has in
          rw (is, is) (ap (option_map change) same)
      where_first false is has rest = rw (is, is) (rest (rw is at has))

  -- Changed and changed back, the children are the same, and so are all nodes.
  pub with_children_of-back : (change back : Nodes Own → Nodes Own) (nodes inner : Nodes Own) → children_of wanted nodes ≡ Some inner →
      back (change inner) ≡ inner → with_children_of wanted back (with_children_of wanted change nodes) ≡ nodes
  with_children_of-back change back none inner has same = refl
  with_children_of-back change back (node name own children later) inner has same =
      where_first (bytes_eq name wanted) refl has (λ has. with_children_of-back change back later inner has same)
    where
      where_first : (b : Bool) → bytes_eq name wanted ≡ b → children_of wanted (node name own children later) ≡ Some inner →
          (children_of wanted later ≡ Some inner → with_children_of wanted back (with_children_of wanted change later) ≡ later) →
          with_children_of wanted back (with_children_of wanted change (node name own children later)) ≡ node name own children later
      where_first true is has rest =
          let found : inner ≡ children = same_in_some inner children (sym (rw is at has)) in
          rw (is, is) (ap (λ nodes. node name own nodes later) (subst (λ nodes. back (change nodes) ≡ nodes) found same))
      where_first false is has rest = rw (is, is) (ap (node name own children) (rest (rw is at has)))
