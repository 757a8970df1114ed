use Rattle.std.proofs.Common.{◌≡◌, ℕ, Bool, true, false, List, [], ◌∷◌, Option, Some, None, bytes_eq, refl, ap, ◌∙◌}
use Rattle.bi_base.specs.Cells.{up_to}
use Rattle.bi_blob.specs.Tree.{Nodes, none, node, Root, PropertyMap}
use Rattle.bi_fit.specs.ImageTree.{tree_without_payloads, with_children_of, with_image_nodes, without_payload, without_payloads}
use Rattle.bi_fit.specs.Names.{images_name}
use Rattle.bi_fit.specs.Text.{end_after, with_payload, with_payloads}
use Rattle.bi_plain.specs.PlainNodes.{with_own_payloads}

-- Payloads are put into image nodes without the properties of payloads.

begin_counts_not : (one other : ℕ) (payload : Option (List ℕ)) (own : PropertyMap) →
    with_payload None one payload own ≡ with_payload None other payload own
begin_counts_not one other None own = refl
begin_counts_not one other (Some payload) own = refl

-- Nodes after the last payload get none.
no_payloads : (nodes : Nodes PropertyMap) → with_own_payloads [] nodes ≡ without_payloads nodes
no_payloads none = refl
no_payloads (node name own children later) = ap (node name (without_payload own) children) (no_payloads later)

own_payloads_are : (end : ℕ) (payloads : List (Option (List ℕ))) (nodes : Nodes PropertyMap) →
    with_own_payloads payloads nodes ≡ with_payloads None end payloads (without_payloads nodes)
own_payloads_are end [] nodes = no_payloads nodes
own_payloads_are end (payload ∷ payloads) none = refl
own_payloads_are end (payload ∷ payloads) (node name own children later) =
    ap (λ own. node name own children (with_own_payloads payloads later))
    (begin_counts_not 0 (up_to 4 end) payload (without_payload own))
    ∙ ap (node name (with_payload None (up_to 4 end) payload (without_payload own)) children)
    (own_payloads_are (end_after 4 end payload) payloads later)

-- The children of a node are changed twice.
abbrev AreTwice : (change first both : Nodes PropertyMap → Nodes PropertyMap) → Nodes PropertyMap → Type 0
AreTwice change first both nodes =
    with_children_of images_name both nodes ≡ with_children_of images_name change (with_children_of images_name first nodes)

twice_first : (change first both : Nodes PropertyMap → Nodes PropertyMap) →
    ((nodes : Nodes PropertyMap) → both nodes ≡ change (first nodes)) →
    (name : List ℕ) (own : PropertyMap) (children later : Nodes PropertyMap) → AreTwice change first both later → (b : Bool) →
    bytes_eq name images_name ≡ b → AreTwice change first both (node name own children later)
twice_first change first both same name own children later rest true is =
    rw (is, is) (ap (λ inner. node name own inner later) (same children))
twice_first change first both same name own children later rest false is = rw (is, is) (ap (node name own children) rest)

twice : (change first both : Nodes PropertyMap → Nodes PropertyMap) → ((nodes : Nodes PropertyMap) → both nodes ≡ change (first nodes)) →
    (nodes : Nodes PropertyMap) → AreTwice change first both nodes
twice change first both same none = refl
twice change first both same (node name own children later) =
    twice_first change first both same name own children later (twice change first both same later) (bytes_eq name images_name) refl

pub own_payloads_of_tree : (payloads : List (Option (List ℕ))) (root : Root PropertyMap) →
    with_image_nodes (with_own_payloads payloads) root ≡ with_image_nodes (with_payloads None 0 payloads) (tree_without_payloads root)
own_payloads_of_tree payloads root =
    ap (λ nodes. record { own = root.own; children = nodes })
    (twice (with_payloads None 0 payloads) without_payloads (with_own_payloads payloads) (own_payloads_are 0 payloads) root.children)
