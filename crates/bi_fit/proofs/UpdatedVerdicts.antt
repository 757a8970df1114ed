use Rattle.std.proofs.Common.{◌≡◌, ℕ, ◌+◌, Bool, true, false, List, [], ◌∷◌, map, flat_map, filter, length, rules}
use Rattle.std.proofs.Common.{Option, Some, None, option_and_then, bytes_eq, refl, sym, ap, ap₂, ◌∙◌, length-append}
use Rattle.std.specs.Option.{option_map}
use Rattle.std.specs.FinMap.{get, insert}
use Rattle.std.proofs.lemmas.Slice.Eq.{bytes_eq-Decides}
use Rattle.bi_base.specs.Strings.{text_before_nul}
use Rattle.bi_base.proofs.EqualBytes.{same_bytes}
use Rattle.bi_blob.specs.Tree.{Nodes, none, node, PropertyMap, names}
use Rattle.bi_blob.specs.Lookups.{Sibling, siblings, node_named}
use Rattle.bi_hash.specs.declared.algo.Algo.{Algo}
use Rattle.bi_hash.specs.declared.verdicts.Verdict.{Verdict}
use Rattle.bi_hash.specs.declared.verdicts.Verdict.TheVariants.{Good}
use Rattle.bi_hash.specs.Algos.{algorithm_name, find_algorithm}
use Rattle.bi_hash.specs.Digests.{digest_of}
use Rattle.bi_hash.specs.Verdicts.{verdict_of, verdict_by_name}
use Rattle.bi_hash.proofs.AlgorithmNames.{algorithm_name-find_algorithm}
use Rattle.bi_fit.specs.declared.changes.Changes.{Changes}
use Rattle.bi_fit.specs.declared.key.Key.{Key}
use Rattle.bi_fit.specs.Names.{images_name, configurations_name, algo_name, value_name, default_name, is_hash_name, is_signature_name}
use Rattle.bi_fit.specs.Names.{key_name}
use Rattle.bi_fit.specs.ImageTree.{ImageTree, children_of, with_children_of, image_nodes, nodes_or_none}
use Rattle.bi_fit.specs.Judgement.{Image, images_with, images_of, CheckedHash, checked_hash, hash_nodes, verdicts_of, configuration_nodes}
use Rattle.bi_fit.specs.Judgement.{default_of, ListResult, image_named, with_image, listed_from, list_images}
use Rattle.bi_fit.specs.Judgement.{listed_at, listed_under, listed_of, signatures_in, signature_count}
use Rattle.bi_fit.specs.Updating.{known_algorithm, with_digest_by, with_digests, with_digests_of, images_with_digests, with_new_digests}
use Rattle.bi_fit.specs.Updating.{with_changes, new_hash}
use Rattle.bi_fit.specs.UpdateLaws.{EachUpdateHasItsJudgement}
use Rattle.bi_fit.proofs.Meanings.{same_in_some}
use Rattle.bi_fit.proofs.PayloadProperties.{get-put, get-put_other}
use Rattle.bi_fit.proofs.UpdatedTrees.{new_images}

-- An updated tree has the configurations, lists and signature nodes of the tree, and the verdicts of its new hash nodes.

-- ---- its nodes

-- What is found in nodes with other children there, if it is found.
children_of-with_other : {Own : Type 0} (wanted : List ℕ) (change : Nodes Own → Nodes Own) (nodes : Nodes Own) →
    children_of wanted (with_children_of wanted change nodes) ≡ option_map change (children_of wanted nodes)
children_of-with_other wanted change none = refl
children_of-with_other wanted change (node name own children later) = search (rules, children_of-with_other wanted change later)

-- If there are no image nodes, there are none with digests.
no_images : (payloads : List (Option (List ℕ))) → none ≡ images_with_digests payloads none
no_images [] = refl
no_images (payload ∷ payloads) = refl

images_or_none : (payloads : List (Option (List ℕ))) (found : Option (Nodes PropertyMap)) →
    nodes_or_none (option_map (images_with_digests payloads) found) ≡ images_with_digests payloads (nodes_or_none found)
images_or_none payloads None = no_images payloads
images_or_none payloads (Some images) = refl

-- The image nodes of an updated tree.
image_nodes-with_new_digests : (hashes : Bool) (payloads : List (Option (List ℕ))) (nodes : Nodes PropertyMap) →
    nodes_or_none (children_of images_name (with_new_digests hashes payloads nodes))
    ≡ new_images hashes payloads (nodes_or_none (children_of images_name nodes))
image_nodes-with_new_digests false payloads nodes = refl
image_nodes-with_new_digests true payloads nodes = search (rules, children_of-with_other, images_or_none)

-- Image nodes and their payloads as images, if the digests change.
abbrev pub new_images_with : (hashes : Bool) → List (Option (List ℕ)) → Nodes PropertyMap → List Image
new_images_with hashes payloads nodes = images_with (siblings (new_images hashes payloads nodes)) payloads

-- The images of an updated tree.
pub images_of-updated : (changes : Changes) (tree : ImageTree) →
    images_of (with_changes changes tree) ≡ new_images_with changes.hashes tree.payloads (nodes_or_none (image_nodes tree.root))
images_of-updated changes tree = search (rules, image_nodes-with_new_digests)

-- ---- its verdicts

-- The text of a known algorithm is its name, and the verdict on its digest is Good.
known_name : (text : Option (List ℕ)) (algo : Algo) → option_and_then find_algorithm text ≡ Some algo → text ≡ Some (algorithm_name algo)
known_name None algo is = absurd cc
known_name (Some name) algo is = ap Some (algorithm_name-find_algorithm name algo is)

good_by_name : (text : Option (List ℕ)) (algo : Algo) (payload : List ℕ) → option_and_then find_algorithm text ≡ Some algo →
    verdict_by_name text (Some (digest_of algo payload)) (Some payload) ≡ Good
good_by_name None algo payload is = absurd cc
good_by_name (Some name) algo payload is =
    rw (is, (bytes_eq-Decides (digest_of algo payload) (digest_of algo payload)).1 refl) refl

good_verdict : (properties : PropertyMap) (algo : Algo) (payload : List ℕ) → known_algorithm properties ≡ Some algo →
    verdict_of (get properties algo_name) (Some (digest_of algo payload)) (Some payload) ≡ Good
unfolding verdict_of
good_verdict properties algo payload is =
    good_by_name (option_and_then text_before_nul (get properties algo_name)) algo payload is

-- A hash node with a name, of an image with a name, with these properties and this payload.
abbrev hash_of : (image name : List ℕ) → (algo value payload : Option (List ℕ)) → CheckedHash
hash_of image name algo value payload = record {
  image = image;
  node_name = name;
  algo = option_and_then text_before_nul algo;
  value = value;
  verdict = verdict_of algo value payload;
}

-- The same of one that is Good by this algorithm.
abbrev good_hash_of : (image name payload : List ℕ) → Algo → CheckedHash
good_hash_of image name payload algo = record {
  image = image;
  node_name = name;
  algo = Some (algorithm_name algo);
  value = Some (digest_of algo payload);
  verdict = Good;
}

-- A hash node with its digest is Good.
good_hash : (image name : List ℕ) (properties : PropertyMap) (payload : List ℕ) (algo : Algo) → known_algorithm properties ≡ Some algo →
    hash_of image name (get properties algo_name) (Some (digest_of algo payload)) (Some payload) ≡ good_hash_of image name payload algo
good_hash image name properties payload algo is =
    ap₂ (λ (text : Option (List ℕ)) (verdict : Verdict). record {
      image = image;
      node_name = name;
      algo = text;
      value = Some (digest_of algo payload);
      verdict = verdict;
    })
    (known_name (option_and_then text_before_nul (get properties algo_name)) algo is)
    (good_verdict properties algo payload is)

-- The properties of a hash node with a digest.
hash-with_digest : (image name : List ℕ) (properties : PropertyMap) (payload digest : List ℕ) →
    hash_of image name (get (insert properties value_name digest) algo_name) (get (insert properties value_name digest) value_name)
    (Some payload) ≡ hash_of image name (get properties algo_name) (Some digest) (Some payload)
hash-with_digest image name properties payload digest = search (rules, get-put_other, get-put)

module _ (entry : Sibling PropertyMap) (payload : List ℕ) where
  -- The image of this node and payload.
  abbrev image_of : Image
  image_of = record { entry = entry; payload = Some payload }

  -- A hash node of it after the update.
  hash_is : (name : List ℕ) (own : PropertyMap) (children later new_later : Nodes PropertyMap) →
      checked_hash image_of (record {
        name = name;
        own = with_digest_by (known_algorithm own) payload own;
        children = children;
        later =
            new_later;
      }) ≡ new_hash true image_of (record { name = name; own = own; children = children; later = later })
  hash_is name own children later new_later = search (rules, hash-with_digest, good_hash)

  -- And each hash node among its children.
  hashes_are : (nodes : Nodes PropertyMap) →
      map (checked_hash image_of) (filter (λ child. is_hash_name child.name) (siblings (with_digests payload nodes)))
      ≡ map (new_hash true image_of) (filter (λ child. is_hash_name child.name) (siblings nodes))
  hashes_are none = refl
  hashes_are (node name own children later) = search (rules, hash_is, hashes_are later)

-- The same where there may be no payload: then the hash nodes are as they were.
hashes_of : (payload : Option (List ℕ)) (name : List ℕ) (own : PropertyMap) (children later new_later : Nodes PropertyMap) →
    map (checked_hash (record {
      entry = record { name = name; own = own; children = with_digests_of payload children; later = new_later };
      payload = payload;
    })) (hash_nodes
    (record {
      entry = record { name = name; own = own; children = with_digests_of payload children; later = new_later };
      payload = payload;
    })) ≡ map (new_hash true (record { entry = record { name = name; own = own; children = children; later = later }; payload = payload }))
    (hash_nodes (record { entry = record { name = name; own = own; children = children; later = later }; payload = payload }))
hashes_of None name own children later new_later = refl
hashes_of (Some payload) name own children later new_later =
    hashes_are (record { name = name; own = own; children = children; later = later }) payload children

-- Those of all images.
verdicts_with : (payloads : List (Option (List ℕ))) (nodes : Nodes PropertyMap) →
    flat_map (λ image. map (checked_hash image) (hash_nodes image)) (images_with (siblings (images_with_digests payloads nodes)) payloads)
    ≡ flat_map (λ image. map (new_hash true image) (hash_nodes image)) (images_with (siblings nodes) payloads)
verdicts_with [] none = refl
verdicts_with [] (node name own children later) = refl
verdicts_with (payload ∷ payloads) none = refl
verdicts_with (payload ∷ payloads) (node name own children later) = search (rules, hashes_of, verdicts_with payloads later)

-- The same, if the digests change.
verdicts_with_new : (hashes : Bool) (payloads : List (Option (List ℕ))) (nodes : Nodes PropertyMap) →
    flat_map (λ image. map (checked_hash image) (hash_nodes image)) (new_images_with hashes payloads nodes)
    ≡ flat_map (λ image. map (new_hash hashes image) (hash_nodes image)) (images_with (siblings nodes) payloads)
verdicts_with_new false payloads nodes = refl
verdicts_with_new true payloads nodes = verdicts_with payloads nodes

-- The verdicts of an updated tree.
pub verdicts-updated : (changes : Changes) (tree : ImageTree) →
    verdicts_of (with_changes changes tree) ≡ flat_map (λ image. map (new_hash changes.hashes image) (hash_nodes image)) (images_of tree)
verdicts-updated changes tree = search (rules, images_of-updated, verdicts_with_new)

-- ---- its configurations

-- The node of configurations is not that of images.
not_configurations : (name : List ℕ) → bytes_eq name images_name ≡ true → bytes_eq name configurations_name ≡ false
not_configurations name is = ap (λ name. bytes_eq name configurations_name) (same_bytes name images_name is)

module _ {Own : Type 0} (change : Nodes Own → Nodes Own) where
  -- Other image nodes change neither the children of the node of configurations ..
  configurations_are : (nodes : Nodes Own) →
      children_of configurations_name (with_children_of images_name change nodes) ≡ children_of configurations_name nodes
  configurations_are none = refl
  configurations_are (node name own children later) = search (rules, not_configurations, configurations_are later)

  -- .. nor what it has itself.
  configurations_have : {B : Type 0} (of : Own → Option B) (nodes : Nodes Own) →
      option_and_then (λ found. of found.own) (node_named (with_children_of images_name change nodes) configurations_name)
      ≡ option_and_then (λ found. of found.own) (node_named nodes configurations_name)
  configurations_have of none = refl
  configurations_have {B = B} of (node name own children later) =
      where_first (bytes_eq name images_name) refl (configurations_have of later)
    where
      -- What is taken from the node of configurations.
      taken : Nodes Own → Option B
      taken nodes = option_and_then (λ found. of found.own) (node_named nodes configurations_name)

      where_here : (b : Bool) → bytes_eq name configurations_name ≡ b → taken (with_children_of images_name change later) ≡ taken later →
          taken (node name own children (with_children_of images_name change later)) ≡ taken (node name own children later)
      where_here true is rest = rw is refl
      where_here false is rest = rw is rest

      where_first : (b : Bool) → bytes_eq name images_name ≡ b → taken (with_children_of images_name change later) ≡ taken later →
          taken (with_children_of images_name change (node name own children later)) ≡ taken (node name own children later)
      where_first true is rest = rw (is, not_configurations name is) refl
      where_first false is rest = rw is (where_here (bytes_eq name configurations_name) refl rest)

-- The same with new digests.
children_of_configurations : (hashes : Bool) (payloads : List (Option (List ℕ))) (nodes : Nodes PropertyMap) →
    children_of configurations_name (with_new_digests hashes payloads nodes) ≡ children_of configurations_name nodes
children_of_configurations false payloads nodes = refl
children_of_configurations true payloads nodes = configurations_are (images_with_digests payloads) nodes

default_in : (hashes : Bool) (payloads : List (Option (List ℕ))) (nodes : Nodes PropertyMap) →
    option_and_then (λ found. option_and_then text_before_nul (get found.own default_name))
    (node_named (with_new_digests hashes payloads nodes) configurations_name)
    ≡ option_and_then (λ found. option_and_then text_before_nul (get found.own default_name)) (node_named nodes configurations_name)
default_in false payloads nodes = refl
default_in true payloads nodes =
    configurations_have (images_with_digests payloads) (λ own. option_and_then text_before_nul (get own default_name)) nodes

-- The configuration nodes of an updated tree, and its default.
pub configuration_nodes-updated : (changes : Changes) (tree : ImageTree) →
    configuration_nodes (with_changes changes tree) ≡ configuration_nodes tree
configuration_nodes-updated changes tree =
    ap nodes_or_none (children_of_configurations changes.hashes tree.payloads tree.root.children)

pub default_of-updated : (changes : Changes) (tree : ImageTree) → default_of (with_changes changes tree) ≡ default_of tree
default_of-updated changes tree = default_in changes.hashes tree.payloads tree.root.children

-- ---- what they list

-- An image of a name has the payload that it had.
payload_named : (payloads : List (Option (List ℕ))) (nodes : Nodes PropertyMap) (wanted : List ℕ) →
    option_map (λ image. image.payload) (image_named wanted (images_with (siblings (images_with_digests payloads nodes)) payloads))
    ≡ option_map (λ image. image.payload) (image_named wanted (images_with (siblings nodes) payloads))
payload_named [] none wanted = refl
payload_named [] (node name own children later) wanted = refl
payload_named (payload ∷ payloads) none wanted = refl
payload_named (payload ∷ payloads) (node name own children later) wanted = search (rules, payload_named payloads later wanted)

-- What is listed depends only on the payloads of the images.
listed_from-same : (index : ℕ) (name : List ℕ) (one other : Option Image) (later : ListResult) →
    option_map (λ image. image.payload) one ≡ option_map (λ image. image.payload) other →
    listed_from index name one later ≡ listed_from index name other later
listed_from-same index name None None later same = refl
listed_from-same index name None (Some image) later same = absurd cc
listed_from-same index name (Some image) None later same = absurd cc
listed_from-same index name (Some image) (Some other) later same =
    ap (λ payload. with_image (record { name = name; payload = payload }) later) (same_in_some image.payload other.payload same)

list_images-same : (images others : List Image) →
    ((wanted : List ℕ) → option_map (λ image. image.payload) (image_named wanted images)
    ≡ option_map (λ image. image.payload) (image_named wanted others)) → (index : ℕ) (wanted : List (List ℕ)) →
    list_images images index wanted ≡ list_images others index wanted
list_images-same images others same index [] = refl
list_images-same images others same index (name ∷ later) =
    ap (λ rest. listed_from index name (image_named name images) rest) (list_images-same images others same (index + 1) later)
    ∙ listed_from-same index name (image_named name images) (image_named name others) (list_images others (index + 1) later) (same name)

listed_at-same : (images others : List Image) →
    ((wanted : List ℕ) → option_map (λ image. image.payload) (image_named wanted images)
    ≡ option_map (λ image. image.payload) (image_named wanted others)) → (value : Option (List ℕ)) →
    listed_at images value ≡ listed_at others value
listed_at-same images others same None = refl
listed_at-same images others same (Some value) = search (rules, list_images-same)

listed_under-same : (images others : List Image) →
    ((wanted : List ℕ) → option_map (λ image. image.payload) (image_named wanted images)
    ≡ option_map (λ image. image.payload) (image_named wanted others)) → (configuration : Option (Sibling PropertyMap)) (key : Key) →
    listed_under images configuration key ≡ listed_under others configuration key
listed_under-same images others same None key = refl
listed_under-same images others same (Some configuration) key =
    listed_at-same images others same (get configuration.own (key_name key))

-- The same, if the digests change.
payload_named_new : (hashes : Bool) (payloads : List (Option (List ℕ))) (nodes : Nodes PropertyMap) (wanted : List ℕ) →
    option_map (λ image. image.payload) (image_named wanted (new_images_with hashes payloads nodes))
    ≡ option_map (λ image. image.payload) (image_named wanted (images_with (siblings nodes) payloads))
payload_named_new false payloads nodes wanted = refl
payload_named_new true payloads nodes wanted = payload_named payloads nodes wanted

-- What the configurations of an updated tree list.
pub listed_of-updated : (changes : Changes) (tree : ImageTree) (configuration : List ℕ) (key : Key) →
    listed_of (with_changes changes tree) configuration key ≡ listed_of tree configuration key
listed_of-updated changes tree configuration key =
    ap₂ (λ images nodes. listed_under images (node_named nodes configuration) key) (images_of-updated changes tree)
    (configuration_nodes-updated changes tree)
    ∙ listed_under-same (new_images_with changes.hashes tree.payloads (nodes_or_none (image_nodes tree.root))) (images_of tree)
    (payload_named_new changes.hashes tree.payloads (nodes_or_none (image_nodes tree.root)))
    (node_named (configuration_nodes tree) configuration) key

-- ---- its signature nodes

-- Digests change no signature node.
signatures-with_digests : (payload : List ℕ) (nodes : Nodes PropertyMap) →
    length (filter (λ child. is_signature_name child.name) (siblings (with_digests payload nodes)))
    ≡ length (filter (λ child. is_signature_name child.name) (siblings nodes))
signatures-with_digests payload none = refl
signatures-with_digests payload (node name own children later) = search (rules, signatures-with_digests payload later)

signatures-with_digests_of : (payload : Option (List ℕ)) (nodes : Nodes PropertyMap) →
    length (filter (λ child. is_signature_name child.name) (siblings (with_digests_of payload nodes)))
    ≡ length (filter (λ child. is_signature_name child.name) (siblings nodes))
signatures-with_digests_of None nodes = refl
signatures-with_digests_of (Some payload) nodes = signatures-with_digests payload nodes

-- Nor do those of all images.
signatures_with : (payloads : List (Option (List ℕ))) (nodes : Nodes PropertyMap) →
    length (flat_map (λ image. signatures_in image.entry) (images_with (siblings (images_with_digests payloads nodes)) payloads))
    ≡ length (flat_map (λ image. signatures_in image.entry) (images_with (siblings nodes) payloads))
signatures_with [] none = refl
signatures_with [] (node name own children later) = refl
signatures_with (payload ∷ payloads) none = refl
signatures_with (payload ∷ payloads) (node name own children later) =
    length-append (filter (λ child. is_signature_name child.name) (siblings (with_digests_of payload children))) _
    ∙ ap₂ (λ m n. m + n) (signatures-with_digests_of payload children) (signatures_with payloads later)
    ∙ sym (length-append (filter (λ child. is_signature_name child.name) (siblings children)) _)

signatures_with_new : (hashes : Bool) (payloads : List (Option (List ℕ))) (nodes : Nodes PropertyMap) →
    length (flat_map (λ image. signatures_in image.entry) (new_images_with hashes payloads nodes))
    ≡ length (flat_map (λ image. signatures_in image.entry) (images_with (siblings nodes) payloads))
signatures_with_new false payloads nodes = refl
signatures_with_new true payloads nodes = signatures_with payloads nodes

-- The number of signature nodes of an updated tree.
pub signatures-updated : (changes : Changes) (tree : ImageTree) → signature_count (with_changes changes tree) ≡ signature_count tree
signatures-updated changes tree = search (rules, images_of-updated, signatures_with_new, configuration_nodes-updated)

-- ---- all of it

pub updated_judgement : EachUpdateHasItsJudgement
updated_judgement changes tree = record {
  verdicts = verdicts-updated changes tree;
  configurations = ap names (configuration_nodes-updated changes tree);
  listed = listed_of-updated changes tree;
  default_configuration = default_of-updated changes tree;
  signatures = signatures-updated changes tree;
}
