use Rattle.std.proofs.Common.{◌≡◌, ℕ, ◌+◌, max, ◌≤◌, Bool, true, false, List, [], ◌∷◌, Option, Some, None, refl, sym, ap, ap₂, subst, rules}
use Rattle.std.specs.List.{AllZip}
use Rattle.bi_base.specs.Cells.{cell}
use Rattle.bi_base.proofs.ByteLists.{AreBytes-cell}
use Rattle.bi_blob.specs.Tree.{Nodes, none, node, PropertyMap, names, depth, depth_of, IsNew, AreNodes}
use Rattle.bi_hash.specs.declared.algo.Algo.{Algo}
use Rattle.bi_hash.proofs.DigestBytes.{AreBytes-digest_of}
use Rattle.bi_fit.specs.declared.changes.Changes.{Changes}
use Rattle.bi_fit.specs.Names.{images_name, timestamp_name, is_hash_name}
use Rattle.bi_fit.specs.ImageTree.{ImageTree, children_of, each_own, ArePropertiesByName, HaveByteNames, IsApart, IsImageTree}
use Rattle.bi_fit.specs.Updating.{with_time, known_algorithm, with_digest_by, with_digest, with_digests, with_digests_of}
use Rattle.bi_fit.specs.Updating.{images_with_digests, with_new_digests, with_changes}
use Rattle.bi_fit.specs.UpdateLaws.{NoChangeKeepsTree, UpdatedIsImageTree, UpdatedIsAccepted}
use Rattle.bi_fit.proofs.TreeContents.{tested_property, properties-put}
use Rattle.bi_fit.proofs.TreeShapes.{depth-with_children_of, bytes-with_children_of, AreNodes-with_children_of, AreNodes-children_of}
use Rattle.bi_fit.proofs.Trees.{children_of-with_children_of}
use Rattle.bi_fit.proofs.TextLaws.{fit_text_is_accepted}

-- An updated image tree is an image tree, as deep as it was.

pub no_change_keeps_tree : NoChangeKeepsTree
no_change_keeps_tree tree = refl

-- A root with a time has properties that it may have.
properties-with_time : (time : Option ℕ) (properties : PropertyMap) → ArePropertiesByName properties →
    ArePropertiesByName (with_time time properties)
properties-with_time None properties are = are
properties-with_time (Some time) properties are =
    properties-put properties timestamp_name (cell time) are (tested_property _ _ (cell time) refl (AreBytes-cell time))

-- So has a child of an image node with a digest.
properties-with_digest_by : (algo : Option Algo) (payload : List ℕ) (properties : PropertyMap) → ArePropertiesByName properties →
    ArePropertiesByName (with_digest_by algo payload properties)
properties-with_digest_by None payload properties are = are
properties-with_digest_by (Some algo) payload properties are = search (rules, properties-put, tested_property, AreBytes-digest_of)

properties-with_digest : (payload name : List ℕ) (properties : PropertyMap) → ArePropertiesByName properties →
    ArePropertiesByName (with_digest payload name properties)
properties-with_digest payload name properties are = where_hash (is_hash_name name) refl
  where
    where_hash : (b : Bool) → is_hash_name name ≡ b → ArePropertiesByName (with_digest payload name properties)
    where_hash true is = rw is (properties-with_digest_by (known_algorithm properties) payload properties are)
    where_hash false is = rw is are

-- Digests change no name and no depth.
pub names-with_digests : (payload : List ℕ) (nodes : Nodes PropertyMap) → names (with_digests payload nodes) ≡ names nodes
names-with_digests payload none = refl
names-with_digests payload (node name own children later) =
    ap (λ l. name ∷ l) (names-with_digests payload later)

depth-with_digests : (payload : List ℕ) (nodes : Nodes PropertyMap) → depth (with_digests payload nodes) ≡ depth nodes
depth-with_digests payload none = refl
depth-with_digests payload (node name own children later) =
    ap (λ n. max (depth children + 1) n) (depth-with_digests payload later)

bytes-with_digests : (payload : List ℕ) (nodes : Nodes PropertyMap) → HaveByteNames nodes → HaveByteNames (with_digests payload nodes)
bytes-with_digests payload none are = tt
bytes-with_digests payload (node name own children later) are =
    (are.0, are.1, bytes-with_digests payload later are.2)

-- Children of an image node with digests are nodes.
nodes-with_digests : (payload : List ℕ) (nodes : Nodes PropertyMap) → AreNodes ArePropertiesByName nodes →
    AreNodes ArePropertiesByName (with_digests payload nodes)
nodes-with_digests payload none are = tt
nodes-with_digests payload (node name own children later) are = (
  record {
    is_name = are.0.is_name;
    is_own = properties-with_digest payload name own are.0.is_own;
    is_new = subst (IsNew name) (sym (names-with_digests payload later)) are.0.is_new;
  },
  are.1,
  nodes-with_digests payload later are.2,
)

-- The same where there may be no payload.
depth-with_digests_of : (payload : Option (List ℕ)) (nodes : Nodes PropertyMap) → depth (with_digests_of payload nodes) ≡ depth nodes
depth-with_digests_of None nodes = refl
depth-with_digests_of (Some payload) nodes = depth-with_digests payload nodes

bytes-with_digests_of : (payload : Option (List ℕ)) (nodes : Nodes PropertyMap) → HaveByteNames nodes →
    HaveByteNames (with_digests_of payload nodes)
bytes-with_digests_of None nodes are = are
bytes-with_digests_of (Some payload) nodes are = bytes-with_digests payload nodes are

nodes-with_digests_of : (payload : Option (List ℕ)) (nodes : Nodes PropertyMap) → AreNodes ArePropertiesByName nodes →
    AreNodes ArePropertiesByName (with_digests_of payload nodes)
nodes-with_digests_of None nodes are = are
nodes-with_digests_of (Some payload) nodes are = nodes-with_digests payload nodes are

-- Digests change no name and no depth of image nodes.
pub names-images_with_digests : (payloads : List (Option (List ℕ))) (nodes : Nodes PropertyMap) →
    names (images_with_digests payloads nodes) ≡ names nodes
names-images_with_digests [] nodes = refl
names-images_with_digests (payload ∷ payloads) none = refl
names-images_with_digests (payload ∷ payloads) (node name own children later) =
    ap (λ l. name ∷ l) (names-images_with_digests payloads later)

depth-images_with_digests : (payloads : List (Option (List ℕ))) (nodes : Nodes PropertyMap) →
    depth (images_with_digests payloads nodes) ≡ depth nodes
depth-images_with_digests [] nodes = refl
depth-images_with_digests (payload ∷ payloads) none = refl
depth-images_with_digests (payload ∷ payloads) (node name own children later) =
    ap₂ (λ m n. max (m + 1) n) (depth-with_digests_of payload children) (depth-images_with_digests payloads later)

bytes-images_with_digests : (payloads : List (Option (List ℕ))) (nodes : Nodes PropertyMap) → HaveByteNames nodes →
    HaveByteNames (images_with_digests payloads nodes)
bytes-images_with_digests [] nodes are = are
bytes-images_with_digests (payload ∷ payloads) none are = tt
bytes-images_with_digests (payload ∷ payloads) (node name own children later) are =
    (are.0, bytes-with_digests_of payload children are.1, bytes-images_with_digests payloads later are.2)

-- Image nodes with digests are nodes, and what each has itself is as it was.
nodes-images_with_digests : (payloads : List (Option (List ℕ))) (nodes : Nodes PropertyMap) → AreNodes ArePropertiesByName nodes →
    AreNodes ArePropertiesByName (images_with_digests payloads nodes)
nodes-images_with_digests [] nodes are = are
nodes-images_with_digests (payload ∷ payloads) none are = tt
nodes-images_with_digests (payload ∷ payloads) (node name own children later) are = (
  record {
    is_name = are.0.is_name;
    is_own = are.0.is_own;
    is_new = subst (IsNew name) (sym (names-images_with_digests payloads later)) are.0.is_new;
  },
  nodes-with_digests_of payload children are.1,
  nodes-images_with_digests payloads later are.2,
)

each_own-images_with_digests : (payloads : List (Option (List ℕ))) (nodes : Nodes PropertyMap) →
    each_own (images_with_digests payloads nodes) ≡ each_own nodes
each_own-images_with_digests [] nodes = refl
each_own-images_with_digests (payload ∷ payloads) none = refl
each_own-images_with_digests (payload ∷ payloads) (node name own children later) =
    ap (λ l. own ∷ l) (each_own-images_with_digests payloads later)

-- Image nodes with these payloads, if the digests change.
abbrev pub new_images : (hashes : Bool) → List (Option (List ℕ)) → Nodes PropertyMap → Nodes PropertyMap
new_images false payloads nodes = nodes
new_images true payloads nodes = images_with_digests payloads nodes

-- They are found among the children of the root.
children_of-with_new_digests : (hashes : Bool) (payloads : List (Option (List ℕ))) (nodes images : Nodes PropertyMap) →
    children_of images_name nodes ≡ Some images →
    children_of images_name (with_new_digests hashes payloads nodes) ≡ Some (new_images hashes payloads images)
children_of-with_new_digests false payloads nodes images has = has
children_of-with_new_digests true payloads nodes images has =
    children_of-with_children_of images_name (images_with_digests payloads) nodes images has

-- They and their payloads are apart, if they were.
apart-new_images : (hashes : Bool) (payloads : List (Option (List ℕ))) (images : Nodes PropertyMap) →
    AllZip IsApart (each_own images) payloads → AllZip IsApart (each_own (new_images hashes payloads images)) payloads
apart-new_images false payloads images apart = apart
apart-new_images true payloads images apart =
    subst (λ own. AllZip IsApart own payloads) (sym (each_own-images_with_digests payloads images)) apart

-- The children of the root are nodes, of byte names and as deep as they were.
nodes-with_new_digests : (hashes : Bool) (payloads : List (Option (List ℕ))) (nodes images : Nodes PropertyMap) →
    children_of images_name nodes ≡ Some images → AreNodes ArePropertiesByName nodes →
    AreNodes ArePropertiesByName (with_new_digests hashes payloads nodes)
nodes-with_new_digests false payloads nodes images has are = are
nodes-with_new_digests true payloads nodes images has are =
    AreNodes-with_children_of images_name (images_with_digests payloads) ArePropertiesByName nodes images has
    (nodes-images_with_digests payloads images (AreNodes-children_of ArePropertiesByName images_name nodes images has are))
    are

bytes-with_new_digests : (hashes : Bool) (payloads : List (Option (List ℕ))) (nodes : Nodes PropertyMap) → HaveByteNames nodes →
    HaveByteNames (with_new_digests hashes payloads nodes)
bytes-with_new_digests false payloads nodes are = are
bytes-with_new_digests true payloads nodes are =
    bytes-with_children_of images_name (images_with_digests payloads) (bytes-images_with_digests payloads) nodes are

depth-with_new_digests : (hashes : Bool) (payloads : List (Option (List ℕ))) (nodes : Nodes PropertyMap) →
    depth (with_new_digests hashes payloads nodes) ≡ depth nodes
depth-with_new_digests false payloads nodes = refl
depth-with_new_digests true payloads nodes =
    depth-with_children_of images_name (images_with_digests payloads) (depth-images_with_digests payloads) nodes

-- An updated image tree is an image tree.
pub updated_is_image_tree : (changes : Changes) (tree : ImageTree) → IsImageTree tree → IsImageTree (with_changes changes tree)
updated_is_image_tree changes tree is = record {
  cpu_fits = is.cpu_fits;
  are_reservations = is.are_reservations;
  is_tree = record {
    is_own = properties-with_time changes.time tree.root.own is.is_tree.is_own;
    children = nodes-with_new_digests changes.hashes tree.payloads tree.root.children is.images is.has_images is.is_tree.children;
  };
  name_bytes = bytes-with_new_digests changes.hashes tree.payloads tree.root.children is.name_bytes;
  images = new_images changes.hashes tree.payloads is.images;
  has_images = children_of-with_new_digests changes.hashes tree.payloads tree.root.children is.images is.has_images;
  apart = apart-new_images changes.hashes tree.payloads is.images is.apart;
}

-- It is as deep as it was.
pub depth-updated : (changes : Changes) (tree : ImageTree) → depth_of (with_changes changes tree).root ≡ depth_of tree.root
depth-updated changes tree =
    ap (λ n. max (n + 1) 0) (depth-with_new_digests changes.hashes tree.payloads tree.root.children)

pub updated_is_still_image_tree : UpdatedIsImageTree
updated_is_still_image_tree changes tree is =
    record { is_image_tree = updated_is_image_tree changes tree is; depth = depth-updated changes tree }

-- The text of an updated tree is accepted under limits that hold the tree.
pub updated_is_accepted : UpdatedIsAccepted
updated_is_accepted bounds form changes tree is shallow fits short =
    fit_text_is_accepted bounds form (with_changes changes tree) (updated_is_image_tree changes tree is)
    (subst (λ n. n ≤ bounds.depth) (sym (depth-updated changes tree)) shallow)
    fits short
