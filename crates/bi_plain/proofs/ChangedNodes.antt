use Rattle.std.proofs.Common.{◌≡◌, true, false, bytes_eq, ℕ, zero, suc, ◌+◌, ◌<◌, ◌≤◌, List, [], ◌∷◌, length, set, get_or, refl, ap, ◌∙◌}
use Rattle.std.proofs.Common.{arith}
use Rattle.bi_blob.specs.Tree.{Nodes, none, node, Root, PropertyMap, with_each}
use Rattle.bi_fit.specs.ImageTree.{with_children_of}
use Rattle.bi_fit.specs.Names.{images_name}
use Rattle.bi_tree.specs.Changes.{named_node}
use Rattle.bi_tree.specs.TreeNodes.{TreeNodeModel, below}
use Rattle.bi_tree.specs.Trees.{IsNumberedTree, by_name, tree_by_name}
use Rattle.bi_plain.specs.PlainNodes.{AreNumberedNodes, models_by_name}

-- Nodes that are changed one after the other.

-- These nodes, of which those after some number of the first ones are changed together.
abbrev pub changed_after : (count : ℕ) → (Nodes PropertyMap → Nodes PropertyMap) → Nodes PropertyMap → Nodes PropertyMap
changed_after zero change nodes = change nodes
changed_after (suc count) change none = none
changed_after (suc count) change (node name own children later) = node name own children (changed_after count change later)

-- A node with its properties by name, before others.
abbrev pub before : TreeNodeModel → Nodes PropertyMap → Nodes PropertyMap
before top later = node top.name (by_name top.own) (with_each by_name top.children) later

-- A node with this name, and with this below it, before others.
pub named_before : (new old : TreeNodeModel) (root : Root PropertyMap) → new.name ≡ old.name → tree_by_name (below new) ≡ root →
    (later : Nodes PropertyMap) → before new later ≡ named_node old.name root later
named_before new old root named is later = λ i. named_node (named i) (is i) later

-- A node with other children, before others.
pub other_children : (new old : TreeNodeModel) (children : Nodes PropertyMap) → new.name ≡ old.name → new.own ≡ old.own →
    with_each by_name new.children ≡ children → (later : Nodes PropertyMap) →
    before new later ≡ node old.name (by_name old.own) children later
other_children new old children named owned is later = λ i. node (named i) (by_name (owned i)) (is i) later

-- One more of them was changed.
changed_more : (change next : Nodes PropertyMap → Nodes PropertyMap) (nodes : List TreeNodeModel) (index : ℕ) (new old : TreeNodeModel) →
    index < length nodes → ((later : Nodes PropertyMap) → before new (next later) ≡ change (before (get_or nodes index old) later)) →
    changed_after (suc index) next (models_by_name (set nodes index new)) ≡ changed_after index change (models_by_name nodes)
changed_more change next [] index new old within is = absurd (omega (arith, within))
changed_more change next (first ∷ later) zero new old within is = is (models_by_name later)
changed_more change next (first ∷ later) (suc index) new old within is =
    ap (before first) (changed_more change next later index new old (omega (arith, within)) is)

pub one_changed : (change next : Nodes PropertyMap → Nodes PropertyMap) (nodes : List TreeNodeModel) (index : ℕ) (new old : TreeNodeModel) →
    index < length nodes → ((later : Nodes PropertyMap) → before new (next later) ≡ change (before (get_or nodes index old) later)) →
    changed_after (index + 1) next (models_by_name (set nodes index new)) ≡ changed_after index change (models_by_name nodes)
one_changed change next nodes index new old within is =
    let more : index + 1 ≡ suc index = omega arith in
    ap (λ count. changed_after count next (models_by_name (set nodes index new))) more
    ∙ changed_more change next nodes index new old within is

-- No more of them are changed.
pub others_stay : (count : ℕ) (nodes : Nodes PropertyMap) → changed_after count (λ others. others) nodes ≡ nodes
others_stay zero nodes = refl
others_stay (suc count) none = refl
others_stay (suc count) (node name own children later) = ap (node name own children) (others_stay count later)

-- All were changed.
pub all_changed : (change : Nodes PropertyMap → Nodes PropertyMap) → change none ≡ none → (index : ℕ) (nodes : List TreeNodeModel) →
    length nodes ≤ index → changed_after index change (models_by_name nodes) ≡ models_by_name nodes
all_changed change empty zero [] past = empty
all_changed change empty (suc index) [] past = refl
all_changed change empty zero (first ∷ later) past = absurd (omega (arith, past))
all_changed change empty (suc index) (first ∷ later) past =
    ap (before first) (all_changed change empty index later (omega (arith, past)))

-- If one node is changed and its properties still give the numbers of their names, so do those of all of them.
pub numbered_after : (names : List (List ℕ)) (nodes : List TreeNodeModel) (index : ℕ) (new other : TreeNodeModel) → index < length nodes →
    (IsNumberedTree names (below (get_or nodes index other)) → IsNumberedTree names (below new)) → AreNumberedNodes names nodes →
    AreNumberedNodes names (set nodes index new)
numbered_after names [] index new other within kept all = absurd (omega (arith, within))
numbered_after names (first ∷ later) zero new other within kept all =
    let here = kept (all.0, all.1, tt) in (here.0, here.1, all.2)
numbered_after names (first ∷ later) (suc index) new other within kept all =
    (all.0, all.1, numbered_after names later index new other (omega (arith, within)) kept all.2)

-- The image nodes are the children of the first node with their name.
abbrev pub changed_below : (Nodes PropertyMap → Nodes PropertyMap) → Nodes PropertyMap → Nodes PropertyMap
changed_below change nodes = with_children_of images_name change nodes

pub no_images_here : (change : Nodes PropertyMap → Nodes PropertyMap) (top : TreeNodeModel) (later : Nodes PropertyMap) →
    bytes_eq top.name images_name ≡ false → before top (changed_below change later) ≡ changed_below change (before top later)
no_images_here change top later other = rw other refl

pub images_here : (change : Nodes PropertyMap → Nodes PropertyMap) (top : TreeNodeModel) (later : Nodes PropertyMap) →
    bytes_eq top.name images_name ≡ true →
    node top.name (by_name top.own) (change (with_each by_name top.children)) later ≡ changed_below change (before top later)
images_here change top later same = rw same refl
