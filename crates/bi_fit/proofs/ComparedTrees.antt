use Rattle.std.proofs.Common.{◌≡◌, ◌↔◌, Bool, true, false, Some, bytes_eq, refl, ap₂, subst, rules}
use Rattle.std.proofs.lemmas.Slice.Eq.{bytes_eq-Decides}
use Rattle.bi_blob.specs.Tree.{Nodes, none, node, FileNode, names, as_nodes, IsNew, AreNodes}
use Rattle.bi_blob.specs.Lookups.{Sibling}
use Rattle.bi_fit.specs.declared.comparing.role.Role.{Role}
use Rattle.bi_fit.specs.declared.comparing.role.Role.TheVariants.{RootChild, ImageNode, OtherNode}
use Rattle.bi_fit.specs.Names.{images_name}
use Rattle.bi_fit.specs.ImageTree.{with_children_of, without_payload, without_payloads}
use Rattle.bi_fit.specs.Content.{FitModel, tree_of, IsHeld}
use Rattle.bi_fit.specs.NormalNodes.{alone, properties_by_name, nodes_by_name}
use Rattle.bi_fit.specs.ComparedNodes.{compared_nodes, compared_tree, AreSameBlobs}
use Rattle.bi_fit.proofs.NodeEvents.{nodes_from}
use Rattle.bi_fit.proofs.NormalTrees.{other_name, held_nodes}

-- Image trees are equal if and only if what is compared of them is.

-- After two nodes that are equal, the later ones are equal if and only if all are.
pub same_later : (role : Role) (one other : Sibling FileNode) → compared_nodes role (alone one) ≡ compared_nodes role (alone other) →
    (compared_nodes role one.later ≡ compared_nodes role other.later)
    ↔ (compared_nodes role (nodes_from (Some one)) ≡ compared_nodes role (nodes_from (Some other)))
same_later role one other same = ((λ later. cc), (λ all. cc))

-- Nodes that are not image nodes keep all properties.
compared_others : (nodes : Nodes FileNode) → compared_nodes OtherNode nodes ≡ nodes_by_name nodes
compared_others none = refl
compared_others (node name own children later) =
    ap₂ (node name (properties_by_name own)) (compared_others children) (compared_others later)

-- Image nodes are without those that give their payloads.
compared_images : (nodes : Nodes FileNode) → compared_nodes ImageNode nodes ≡ without_payloads (nodes_by_name nodes)
compared_images none = refl
compared_images (node name own children later) =
    ap₂ (node name (without_payload (properties_by_name own))) (compared_others children) (compared_images later)

-- Children of the root keep all properties, if none has the name `images`.
compared_without_images : (nodes : Nodes FileNode) → IsNew images_name (names nodes) → compared_nodes RootChild nodes ≡ nodes_by_name nodes
compared_without_images none new = refl
compared_without_images (node name own children later) new =
    rw (other_name name new.0) (ap₂ (node name (properties_by_name own)) (compared_others children) (compared_without_images later new.1))

-- Of the children of a root, one at most has the name `images`, and its children are image nodes.
compared_root_children : (IsOwn : FileNode → Type 0) (nodes : Nodes FileNode) → AreNodes IsOwn nodes →
    compared_nodes RootChild nodes ≡ with_children_of images_name without_payloads (nodes_by_name nodes)
compared_root_children IsOwn none are = refl
compared_root_children IsOwn (node name own children later) are =
    where_first (bytes_eq name images_name) refl (compared_root_children IsOwn later are.2)
  where
    where_first : (b : Bool) → bytes_eq name images_name ≡ b →
        compared_nodes RootChild later ≡ with_children_of images_name without_payloads (nodes_by_name later) →
        compared_nodes RootChild (node name own children later) ≡
        with_children_of images_name without_payloads (nodes_by_name (node name own children later))
    where_first true is rest =
        let new : IsNew images_name (names later) = subst (λ name. IsNew name (names later))
        ((bytes_eq-Decides name images_name).0 is) are.0.is_new in
        rw is (ap₂ (node name (properties_by_name own)) (compared_images children) (compared_without_images later new))
    where_first false is rest =
        rw is (ap₂ (node name (properties_by_name own)) (compared_others children) rest)

-- What is compared of a file is the root of its tree.
compared_root : (content : FitModel) → IsHeld content → compared_tree content.blob ≡ as_nodes (tree_of content).root
compared_root content held = search (rules, compared_root_children, held_nodes)

module _ (one other : FitModel) (held : IsHeld one) (held_other : IsHeld other) where
  -- Trees of the same blobs and payloads are the same,
  pub one_compared_tree : AreSameBlobs one.blob other.blob → (tree_of one).payloads ≡ (tree_of other).payloads → tree_of one ≡ tree_of other
  one_compared_tree are payloads = search (rules, compared_root)

  -- and one tree is of the same blobs.
  pub same_blobs : tree_of one ≡ tree_of other → AreSameBlobs one.blob other.blob
  same_blobs same = search (rules, compared_root)
