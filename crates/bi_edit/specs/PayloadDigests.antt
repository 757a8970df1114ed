use Rattle.std.specs.Prelude.{ℕ, List, [], ◌∷◌, option_map, Option, Some, None}
use Rattle.bi_blob.specs.Tree.{Nodes, none, node, Root, PropertyMap}
use Rattle.bi_tree.specs.Changes.{named_node}
use Rattle.bi_tree.specs.Trees.{with_own_value}
use Rattle.bi_hash.specs.Digests.{digest_of}
use Rattle.bi_fit.specs.Names.{value_name}
use Rattle.bi_fit.specs.NewDigests.{hash_algorithm}

-- The digests of a payload, in nodes of a tree that can be changed.

-- The digest of a payload for each of these children of an image node, if it gets one. Without a
-- payload the list is empty.
abbrev pub payload_digests : (payload : Option (List ℕ)) → Nodes PropertyMap
    → List (Option (List ℕ))
payload_digests None nodes = []
payload_digests (Some payload) none = []
payload_digests (Some payload) (node name own children later) =
    option_map (λ algo. digest_of algo payload) (hash_algorithm name own)
    ∷ payload_digests (Some payload) later

-- A node with this digest, if there is one.
abbrev pub with_digest_if : Option (List ℕ) → Root PropertyMap → Root PropertyMap
with_digest_if None root = root
with_digest_if (Some digest) root = with_own_value value_name digest root

-- Nodes with these digests. If there are no more digests, the nodes that follow stay.
abbrev pub with_each_digest : List (Option (List ℕ)) → Nodes PropertyMap → Nodes PropertyMap
with_each_digest [] nodes = nodes
with_each_digest (digest ∷ digests) none = none
with_each_digest (digest ∷ digests) (node name own children later) =
    named_node name (with_digest_if digest (record { own = own; children = children }))
    (with_each_digest digests later)
