use Rattle.std.proofs.Common.{◌≡◌, ℕ, ◌+◌, max, Bool, true, false, List, ◌∷◌, Option, Some, None, if◌then◌else◌, refl, sym, ap, subst, ◌∙◌}
use Rattle.std.specs.FinMap.{get}
use Rattle.bi_blob.specs.Tree.{Nodes, none, node, PropertyMap, AreNodes, IsNew, depth, names}
use Rattle.bi_hash.specs.declared.algo.Algo.{Algo}
use Rattle.bi_hash.specs.Digests.{digest_of}
use Rattle.bi_hash.proofs.DigestBytes.{AreBytes-digest_of}
use Rattle.bi_fit.specs.ImageTree.{ArePropertiesByName, HaveByteNames, each_own}
use Rattle.bi_fit.specs.Names.{data_name, is_hash_name, value_name}
use Rattle.bi_fit.specs.Updating.{known_algorithm, with_digest, with_digest_by, with_digests, with_digests_of}
use Rattle.bi_fit.proofs.TreeContents.{properties-put, tested_property}
use Rattle.bi_fit.proofs.UpdatedTrees.{names-with_digests}
use Rattle.bi_edit.specs.Edits.{with_payload_digests}

-- Digests in hash nodes change no name, no depth and no property of an image node.

properties-with_digest_by : (algo : Option Algo) (payload : List ℕ) (own : PropertyMap) → ArePropertiesByName own →
    ArePropertiesByName (with_digest_by algo payload own)
properties-with_digest_by None payload own are = are
properties-with_digest_by (Some algo) payload own are =
    properties-put own value_name (digest_of algo payload) are
    (tested_property _ _ (digest_of algo payload) refl (AreBytes-digest_of algo payload))

properties-with_digest : (payload name : List ℕ) (own : PropertyMap) → ArePropertiesByName own →
    ArePropertiesByName (with_digest payload name own)
properties-with_digest payload name own are = by_hash (is_hash_name name)
  where
    by_hash : (b : Bool) → ArePropertiesByName (if b then with_digest_by (known_algorithm own) payload own else own)
    by_hash true = properties-with_digest_by (known_algorithm own) payload own are
    by_hash false = are

nodes_with_digests : (payload : List ℕ) (nodes : Nodes PropertyMap) → AreNodes ArePropertiesByName nodes →
    AreNodes ArePropertiesByName (with_digests payload nodes)
nodes_with_digests payload none are = tt
nodes_with_digests payload (node name own children later) are = (
  record {
    is_name = are.0.is_name;
    is_own = properties-with_digest payload name own are.0.is_own;
    is_new = subst (IsNew name) (sym (names-with_digests payload later)) are.0.is_new;
  },
  are.1,
  nodes_with_digests payload later are.2,
)

bytes_with_digests : (payload : List ℕ) (nodes : Nodes PropertyMap) → HaveByteNames nodes → HaveByteNames (with_digests payload nodes)
bytes_with_digests payload none are = tt
bytes_with_digests payload (node name own children later) are = (are.0, are.1, bytes_with_digests payload later are.2)

depth_with_digests : (payload : List ℕ) (nodes : Nodes PropertyMap) → depth (with_digests payload nodes) ≡ depth nodes
depth_with_digests payload none = refl
depth_with_digests payload (node name own children later) = ap (λ n. max (depth children + 1) n) (depth_with_digests payload later)

nodes_with_digests_of : (payload : Option (List ℕ)) (nodes : Nodes PropertyMap) → AreNodes ArePropertiesByName nodes →
    AreNodes ArePropertiesByName (with_digests_of payload nodes)
nodes_with_digests_of None nodes are = are
nodes_with_digests_of (Some payload) nodes are = nodes_with_digests payload nodes are

bytes_with_digests_of : (payload : Option (List ℕ)) (nodes : Nodes PropertyMap) → HaveByteNames nodes →
    HaveByteNames (with_digests_of payload nodes)
bytes_with_digests_of None nodes are = are
bytes_with_digests_of (Some payload) nodes are = bytes_with_digests payload nodes are

depth_with_digests_of : (payload : Option (List ℕ)) (nodes : Nodes PropertyMap) → depth (with_digests_of payload nodes) ≡ depth nodes
depth_with_digests_of None nodes = refl
depth_with_digests_of (Some payload) nodes = depth_with_digests payload nodes

-- ---- image nodes

names_with_payload_digests : (nodes : Nodes PropertyMap) → names (with_payload_digests nodes) ≡ names nodes
names_with_payload_digests none = refl
names_with_payload_digests (node name own children later) = ap (λ l. name ∷ l) (names_with_payload_digests later)

pub nodes_with_payload_digests : (nodes : Nodes PropertyMap) → AreNodes ArePropertiesByName nodes →
    AreNodes ArePropertiesByName (with_payload_digests nodes)
nodes_with_payload_digests none are = tt
nodes_with_payload_digests (node name own children later) are = (
  record {
    is_name = are.0.is_name;
    is_own = are.0.is_own;
    is_new = subst (IsNew name) (sym (names_with_payload_digests later)) are.0.is_new;
  },
  nodes_with_digests_of (get own data_name) children are.1,
  nodes_with_payload_digests later are.2,
)

pub bytes_with_payload_digests : (nodes : Nodes PropertyMap) → HaveByteNames nodes → HaveByteNames (with_payload_digests nodes)
bytes_with_payload_digests none are = tt
bytes_with_payload_digests (node name own children later) are =
    (are.0, bytes_with_digests_of (get own data_name) children are.1, bytes_with_payload_digests later are.2)

pub depth_with_payload_digests : (nodes : Nodes PropertyMap) → depth (with_payload_digests nodes) ≡ depth nodes
depth_with_payload_digests none = refl
depth_with_payload_digests (node name own children later) =
    ap (λ n. max (n + 1) (depth (with_payload_digests later))) (depth_with_digests_of (get own data_name) children)
    ∙ ap (λ n. max (depth children + 1) n) (depth_with_payload_digests later)

pub own_with_payload_digests : (nodes : Nodes PropertyMap) → each_own (with_payload_digests nodes) ≡ each_own nodes
own_with_payload_digests none = refl
own_with_payload_digests (node name own children later) = ap (λ l. own ∷ l) (own_with_payload_digests later)
