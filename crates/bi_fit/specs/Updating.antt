use Rattle.std.specs.Prelude.{◌≡◌, ℕ, Bool, true, false, List, [], ◌∷◌, map, flat_map, Option, Some}
use Rattle.std.specs.Prelude.{None, option_and_then, if◌then◌else◌}
use Rattle.std.specs.FinMap.{get, insert}
use Rattle.bi_base.specs.Cells.{cell}
use Rattle.bi_base.specs.Strings.{text_before_nul}
use Rattle.bi_blob.specs.Tree.{Nodes, none, node, PropertyMap, names}
use Rattle.bi_blob.specs.Lookups.{Sibling}
use Rattle.bi_hash.specs.declared.algo.Algo.{Algo}
use Rattle.bi_hash.specs.declared.verdicts.Verdict.TheVariants.{Good}
use Rattle.bi_hash.specs.Algos.{algorithm_name, find_algorithm}
use Rattle.bi_hash.specs.Digests.{digest_of}
use Rattle.bi_fit.specs.declared.changes.Changes.{Changes}
use Rattle.bi_fit.specs.declared.key.Key.{Key}
use Rattle.bi_fit.specs.Names.{images_name, timestamp_name, algo_name, value_name, is_hash_name}
use Rattle.bi_fit.specs.ImageTree.{ImageTree, with_children_of}
use Rattle.bi_fit.specs.Judgement.{Image, images_of, CheckedHash, checked_hash, hash_nodes}
use Rattle.bi_fit.specs.Judgement.{verdicts_of, configuration_nodes, listed_of, default_of}
use Rattle.bi_fit.specs.Judgement.{signature_count}

-- Updating a flattened image tree: its time, and the digests in its hash nodes (profile of this
-- project).

-- ---- the time

-- The properties of a root with this time: one cell (Flattened Image Tree Specification:
-- `timestamp`).
abbrev pub with_time : Option ℕ → PropertyMap → PropertyMap
with_time None properties = properties
with_time (Some time) properties = insert properties timestamp_name (cell time)

-- ---- the digests

-- The algorithm that a hash node names, if it is known.
abbrev pub known_algorithm : PropertyMap → Option Algo
known_algorithm properties =
    option_and_then find_algorithm (option_and_then text_before_nul (get properties algo_name))

-- The properties of a hash node with the digest of a payload with this algorithm, if there is one.
abbrev pub with_digest_by : Option Algo → (payload : List ℕ) → PropertyMap → PropertyMap
with_digest_by None payload properties = properties
with_digest_by (Some algo) payload properties =
    insert properties value_name (digest_of algo payload)

-- The properties of a child of an image node with the given payload: a hash node with a known
-- algorithm has the digest of the payload as its value, and any other child has the properties that
-- it had.
abbrev pub with_digest : (payload name : List ℕ) → PropertyMap → PropertyMap
with_digest payload name properties =
    if is_hash_name name then with_digest_by (known_algorithm properties) payload properties
    else properties

-- The children of an image node with this payload, after the digests change. The nodes below them
-- stay.
abbrev pub with_digests : (payload : List ℕ) → Nodes PropertyMap → Nodes PropertyMap
with_digests payload none = none
with_digests payload (node name own children later) =
    node name (with_digest payload name own) children (with_digests payload later)

-- The children of an image node, after the digests change. Without a payload they stay, and the
-- nodes below them stay in any case.
abbrev pub with_digests_of : Option (List ℕ) → Nodes PropertyMap → Nodes PropertyMap
with_digests_of None children = children
with_digests_of (Some payload) children = with_digests payload children

-- Image nodes with as many payloads.
abbrev pub images_with_digests : List (Option (List ℕ)) → Nodes PropertyMap → Nodes PropertyMap
images_with_digests [] nodes = nodes
images_with_digests (payload ∷ payloads) none = none
images_with_digests (payload ∷ payloads) (node name own children later) =
    node name own (with_digests_of payload children) (images_with_digests payloads later)

-- The children of a root with image nodes that have these payloads, if the digests change.
abbrev pub with_new_digests : (hashes : Bool) → List (Option (List ℕ)) → Nodes PropertyMap
    → Nodes PropertyMap
with_new_digests false payloads nodes = nodes
with_new_digests true payloads nodes =
    with_children_of images_name (images_with_digests payloads) nodes

-- ---- the updated tree

-- A tree with these changes. All else is as it was: the boot processor, the memory reservations,
-- the nodes and their order, all other properties, and the payloads.
abbrev pub with_changes : Changes → ImageTree → ImageTree
with_changes changes tree =
    record tree {
      root = record {
        own = with_time changes.time tree.root.own;
        children = with_new_digests changes.hashes tree.payloads tree.root.children;
      };
    }

-- ---- what follows from an updated tree

-- A hash node of an image with this payload and this algorithm, once it has the digest: the verdict
-- on it is Good.
abbrev pub hash_with_digest : Image → Sibling PropertyMap → (payload : List ℕ) → Algo
    → CheckedHash
hash_with_digest image hash payload algo = record {
  image = image.entry.name;
  node_name = hash.name;
  algo = Some (algorithm_name algo);
  value = Some (digest_of algo payload);
  verdict = Good;
}

-- A hash node after the digests changed. Without a payload or a known algorithm it is as it was.
abbrev pub rechecked_by : Image → Sibling PropertyMap → Option (List ℕ) → Option Algo → CheckedHash
rechecked_by image hash (Some payload) (Some algo) = hash_with_digest image hash payload algo
rechecked_by image hash payload algo = checked_hash image hash

-- A hash node after an update. If the digests do not change, it is as it was.
abbrev pub new_hash : (hashes : Bool) → Image → Sibling PropertyMap → CheckedHash
new_hash false image hash = checked_hash image hash
new_hash true image hash = rechecked_by image hash image.payload (known_algorithm hash.own)

-- What follows from a tree that was updated, compared with what followed from it before. If the
-- digests change, the verdict is Good on each hash node with a known algorithm, of an image with a
-- payload. All other verdicts stay, and so do the configurations and what they list, the default,
-- and the number of signatures.
pub record HasUpdatedJudgement (changes : Changes) (old new : ImageTree) : Type 0 where
  pub verdicts : verdicts_of new
      ≡ flat_map (λ image. map (new_hash changes.hashes image) (hash_nodes image)) (images_of old)
  pub configurations : names (configuration_nodes new) ≡ names (configuration_nodes old)
  pub listed : (configuration : List ℕ) (key : Key)
      → listed_of new configuration key ≡ listed_of old configuration key
  pub default_configuration : default_of new ≡ default_of old
  pub signatures : signature_count new ≡ signature_count old
