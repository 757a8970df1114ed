use Rattle.std.specs.Prelude.{ℕ, Bool, true, false, List, [], ◌∷◌, ◌++◌, Option, Some, None}
use Rattle.std.specs.Prelude.{if◌then◌else◌}
use Rattle.bi_blob.specs.Tree.{Nodes, none, node, PropertyMap}
use Rattle.bi_hash.specs.declared.algo.Algo.{Algo}
use Rattle.bi_hash.specs.Digests.{digest_of}
use Rattle.bi_fit.specs.declared.changes.Changes.{Changes}
use Rattle.bi_fit.specs.Names.{is_hash_name}
use Rattle.bi_fit.specs.ImageTree.{ImageTree, nodes_or_none, image_nodes}
use Rattle.bi_fit.specs.Updating.{known_algorithm}

-- The digests that the hash nodes of a tree get by an update, one after another: image nodes in
-- their order, and the hash nodes of each in their order (profile of this project).

-- The algorithm of a child of an image node, if it is a hash node and names a known algorithm.
abbrev pub hash_algorithm : (name : List ℕ) → PropertyMap → Option Algo
hash_algorithm name properties =
    if is_hash_name name then known_algorithm properties else None

-- The digest of a payload with this algorithm, if there is one.
abbrev pub digest_by : Option Algo → (payload : List ℕ) → List ℕ
digest_by None payload = []
digest_by (Some algo) payload = digest_of algo payload

-- The digests of a payload for the hash nodes among these children of its image node.
abbrev pub digests_for : (payload : List ℕ) → Nodes PropertyMap → List ℕ
digests_for payload none = []
digests_for payload (node name own children later) =
    digest_by (hash_algorithm name own) payload ++ digests_for payload later

-- The digests of the payload of an image node for the hash nodes among these children of it. There
-- are none if it has no payload.
abbrev pub digests_of_image : Option (List ℕ) → Nodes PropertyMap → List ℕ
digests_of_image None children = []
digests_of_image (Some payload) children = digests_for payload children

-- The digests for the hash nodes of image nodes with as many payloads.
abbrev pub digests_of_images : List (Option (List ℕ)) → Nodes PropertyMap → List ℕ
digests_of_images [] nodes = []
digests_of_images (payload ∷ payloads) none = []
digests_of_images (payload ∷ payloads) (node name own children later) =
    digests_of_image payload children ++ digests_of_images payloads later

-- The digests for the hash nodes of image nodes with these payloads. There are none if the digests
-- do not change.
abbrev pub digests_if_changed : (hashes : Bool) → List (Option (List ℕ)) → Nodes PropertyMap
    → List ℕ
digests_if_changed false payloads nodes = []
digests_if_changed true payloads nodes = digests_of_images payloads nodes

-- The digests for the hash nodes of a tree, if the digests change.
abbrev pub new_digests : Changes → ImageTree → List ℕ
new_digests changes tree =
    digests_if_changed changes.hashes tree.payloads (nodes_or_none (image_nodes tree.root))
