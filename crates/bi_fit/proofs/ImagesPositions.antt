use Rattle.std.proofs.Common.{◌≡◌, ℕ, ◌-◌, zero, suc, false, Option, Some, None, refl, sym, subst, ◌∙◌, arith, true≢false, rules}
use Rattle.std.specs.Prelude.{IsSome, eqb, if◌then◌else◌}
use Rattle.std.specs.Option.{option_map, option_eq}
use Rattle.std.proofs.lemmas.Bool.{ne_eqb}
use Rattle.std.proofs.lemmas.Slice.Eq.{bytes_eq-Decides}
use Rattle.bi_blob.specs.Tree.{Nodes, none, node, FileNode, names, properties_of, IsNew, AreProperties, AreNodes}
use Rattle.bi_blob.specs.Lookups.{Sibling, node_at, node_named}
use Rattle.bi_blob.proofs.Blobs.Lookups.{nodes_are_found}
use Rattle.bi_fdt.specs.Content.{root_of}
use Rattle.bi_fit.specs.Names.{images_name}
use Rattle.bi_fit.specs.Content.{FitModel, IsHeld, IsImagesPosition}
use Rattle.bi_fit.specs.TextNodes.{are_none_before, HaveImagesAfter}
use Rattle.bi_fit.proofs.FileConfigurations.{names_are_distinct}
use Rattle.bi_fit.proofs.NormalTrees.{other_name, held_nodes}

-- The position of the node `images` in a blob is that of the one child of the root with this name.

-- Whether no node is before one is a comparison.
pub is_none_before : (before : Option ℕ) → option_eq eqb before (Some 0) ≡ are_none_before before
is_none_before None = refl
is_none_before (Some count) = refl

-- No node has a name that is new among these.
not_among : (nodes : Nodes FileNode) (position : ℕ) (found : Sibling FileNode) → node_at nodes position ≡ Some found →
    IsNew found.name (names nodes) → ⊥
not_among none position found there new = absurd cc
not_among (node name own children later) zero found there new = search rules
not_among (node name own children later) (suc position) found there new = not_among later position found there new.1

-- Nodes to which the name is new.
without_images : (nodes : Nodes FileNode) → IsNew images_name (names nodes) → HaveImagesAfter None nodes
without_images none new = tt
without_images (node name own children later) new = (other_name name new.0, without_images later new.1)

-- The node at a position has the name, and no other.
images_after : (IsOwn : FileNode → Type 0) (nodes : Nodes FileNode) (position : ℕ) (found : Sibling FileNode) →
    AreNodes IsOwn nodes → node_at nodes position ≡ Some found → found.name ≡ images_name → HaveImagesAfter (Some position) nodes
images_after IsOwn none position found are there named = tt
images_after IsOwn (node name own children later) zero found are there named = search (rules, bytes_eq-Decides, without_images)
images_after IsOwn (node name own children later) (suc position) found are there named =
    let some : eqb (suc position) 0 ≡ false = ne_eqb (suc position) 0 (λ is. absurd (omega (arith, is))) in
    let fewer : suc position - 1 ≡ position = omega arith in (
      other_name name (λ is. not_among later position found there
          (subst (λ name. IsNew name (names later)) (is ∙ sym named) are.0.is_new)) ∙ sym some,
      subst (λ is_none. HaveImagesAfter (if is_none then None else Some (suc position - 1)) later) (sym some)
          (subst (λ count. HaveImagesAfter (Some count) later) (sym fewer) (images_after IsOwn later position found are.2 there named)),
    )

-- The position of the child `images` of the root is that of the one child with this name.
pub position_there : (content : FitModel) → IsHeld content → (position : ℕ) → IsImagesPosition content.blob position →
    HaveImagesAfter (Some position) (root_of content.blob).children
position_there content held position at = by_search (node_named nodes images_name) refl
  where
    nodes : Nodes FileNode
    nodes = (root_of content.blob).children

    by_search : (found : Option (Sibling FileNode)) → node_named nodes images_name ≡ found → HaveImagesAfter (Some position) nodes
    by_search None is = absurd (true≢false
        (sym (subst (λ found. IsSome (option_map (λ (images : Sibling FileNode). images.children) found)) is held.has_images)))
    by_search (Some found) is =
        let are = held_nodes content held in
        images_after (λ own. AreProperties (properties_of own)) nodes position found are (at ∙ is)
        ((nodes_are_found nodes (names_are_distinct (λ own. AreProperties (properties_of own)) nodes are)).by_name images_name found is).0
