use Rattle.std.specs.Prelude.{ℕ, ◌≤◌, ⊤, Bool, false, List, [], ◌∷◌, take, drop, length}
use Rattle.std.specs.Prelude.{Option, Some, None, if◌then◌else◌}
use Rattle.std.specs.FinMap.{insert}
use Rattle.bi_blob.specs.Tree.{Nodes, none, node, PropertyMap}
use Rattle.bi_hash.specs.declared.algo.Algo.{Algo}
use Rattle.bi_hash.specs.Digests.{digest_size}
use Rattle.bi_fit.specs.Names.{value_name}
use Rattle.bi_fit.specs.NewDigests.{hash_algorithm}

-- The values of hash nodes, taken in turn from the bytes of their digests.

-- The algorithm with which a child of an image node gets a digest, if the hash nodes of the image
-- do.
abbrev pub algorithm_if_hashed : (hashed : Bool) → (name : List ℕ) → PropertyMap → Option Algo
algorithm_if_hashed hashed name properties =
    if hashed then hash_algorithm name properties else None

-- The bytes begin with a digest with this algorithm, if there is one.
abbrev pub HasDigest : Option Algo → (digests : List ℕ) → Type 0
HasDigest None digests = ⊤
HasDigest (Some algo) digests = digest_size algo ≤ length digests

-- The properties of a node with this digest as the value, if there is an algorithm.
abbrev pub with_first_digest : Option Algo → (digests : List ℕ) → PropertyMap → PropertyMap
with_first_digest None digests properties = properties
with_first_digest (Some algo) digests properties =
    insert properties value_name (take (digest_size algo) digests)

-- The bytes after it.
abbrev pub after_digest : Option Algo → (digests : List ℕ) → List ℕ
after_digest None digests = digests
after_digest (Some algo) digests = drop (digest_size algo) digests

-- The bytes hold the digests for these children of an image node.
abbrev pub HaveDigests : (hashed : Bool) → (digests : List ℕ) → Nodes PropertyMap → Type 0
HaveDigests hashed digests none = ⊤
HaveDigests hashed digests (node name own children later) =
    HasDigest (algorithm_if_hashed hashed name own) digests
    × HaveDigests hashed (after_digest (algorithm_if_hashed hashed name own) digests) later

-- The children of an image node with these digests, if its hash nodes get new ones.
abbrev pub with_digests_from : (hashed : Bool) → (digests : List ℕ) → Nodes PropertyMap
    → Nodes PropertyMap
with_digests_from hashed digests none = none
with_digests_from hashed digests (node name own children later) =
    node name (with_first_digest (algorithm_if_hashed hashed name own) digests own) children
    (with_digests_from hashed (after_digest (algorithm_if_hashed hashed name own) digests) later)

-- The bytes after these digests.
abbrev pub after_digests : (hashed : Bool) → (digests : List ℕ) → Nodes PropertyMap → List ℕ
after_digests hashed digests none = digests
after_digests hashed digests (node name own children later) =
    after_digests hashed (after_digest (algorithm_if_hashed hashed name own) digests) later

-- Whether the hash nodes of an image with the given payload get new digests.
abbrev pub is_hashed : (hashes : Bool) → Option (List ℕ) → Bool
is_hashed hashes None = false
is_hashed hashes (Some payload) = hashes

-- The bytes hold the digests for image nodes with these payloads.
abbrev pub HaveImageDigests : (hashes : Bool) → List (Option (List ℕ)) → (digests : List ℕ)
    → Nodes PropertyMap → Type 0
HaveImageDigests hashes [] digests nodes = ⊤
HaveImageDigests hashes (payload ∷ payloads) digests none = ⊤
HaveImageDigests hashes (payload ∷ payloads) digests (node name own children later) =
    HaveDigests (is_hashed hashes payload) digests children
    × HaveImageDigests hashes payloads
    (after_digests (is_hashed hashes payload) digests children) later

-- Image nodes with these payloads, and with these digests in their hash nodes.
abbrev pub images_with_digests_from : (hashes : Bool) → List (Option (List ℕ))
    → (digests : List ℕ) → Nodes PropertyMap → Nodes PropertyMap
images_with_digests_from hashes [] digests nodes = nodes
images_with_digests_from hashes (payload ∷ payloads) digests none = none
images_with_digests_from hashes (payload ∷ payloads) digests (node name own children later) =
    node name own (with_digests_from (is_hashed hashes payload) digests children)
    (images_with_digests_from hashes payloads
    (after_digests (is_hashed hashes payload) digests children) later)
