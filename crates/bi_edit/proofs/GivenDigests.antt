use Rattle.std.proofs.Common.{◌≡◌, ℕ, Bool, true, false, List, [], ◌∷◌, Option, Some, None, option_map, if◌then◌else◌, refl, ap}
use Rattle.bi_blob.specs.Tree.{Nodes, none, node, PropertyMap}
use Rattle.bi_tree.specs.Changes.{named_node}
use Rattle.bi_hash.specs.declared.algo.Algo.{Algo}
use Rattle.bi_hash.specs.Digests.{digest_of}
use Rattle.bi_fit.specs.Names.{is_hash_name}
use Rattle.bi_fit.specs.Updating.{known_algorithm, with_digest_by, with_digests_of}
use Rattle.bi_edit.specs.PayloadDigests.{payload_digests, with_digest_if, with_each_digest}

-- The digests of a payload are given to the children of an image node.

-- A child gets the digest by its algorithm, if it is a hash node.
digest_given : (payload name : List ℕ) (own : PropertyMap) (children given later : Nodes PropertyMap) → given ≡ later →
    (is_hash : Bool) (algo : Option Algo) →
    named_node name
    (with_digest_if (option_map (λ known. digest_of known payload) (if is_hash then algo else None))
    (record { own = own; children = children })) given
    ≡ node name (if is_hash then with_digest_by algo payload own else own) children later
digest_given payload name own children given later same true None = ap (node name own children) same
digest_given payload name own children given later same true (Some algo) =
    ap (node name (with_digest_by (Some algo) payload own) children) same
digest_given payload name own children given later same false algo = ap (node name own children) same

pub digests_given : (payload : Option (List ℕ)) (nodes : Nodes PropertyMap) →
    with_each_digest (payload_digests payload nodes) nodes ≡ with_digests_of payload nodes
digests_given None nodes = refl
digests_given (Some payload) none = refl
digests_given (Some payload) (node name own children later) =
    digest_given payload name own children (with_each_digest (payload_digests (Some payload) later) later)
    (with_digests_of (Some payload) later) (digests_given (Some payload) later) (is_hash_name name) (known_algorithm own)

-- No nodes get no digests.
pub no_nodes_given : (digests : List (Option (List ℕ))) → with_each_digest digests none ≡ none
no_nodes_given [] = refl
no_nodes_given (digest ∷ digests) = refl
