use Rattle.std.proofs.Common.{◌≡◌, ◌≢◌, ℕ, Bool, true, false, List, [], ◌∷◌, Option, Some, None, bytes_eq, refl, rules}
use Rattle.std.specs.List.{AllZip}
use Rattle.bi_base.proofs.EqualBytes.{same_bytes}
use Rattle.bi_blob.specs.Tree.{Nodes, none, node, PropertyMap}
use Rattle.bi_blob.specs.Lookups.{siblings}
use Rattle.bi_hash.specs.declared.algo.Algo.{Algo}
use Rattle.bi_fit.specs.declared.changes.Changes.{Changes}
use Rattle.bi_fit.specs.Names.{images_name}
use Rattle.bi_fit.specs.ImageTree.{ImageTree, with_children_of}
use Rattle.bi_fit.specs.Judgement.{images_with}
use Rattle.bi_fit.specs.NewDigests.{hash_algorithm}
use Rattle.bi_fit.specs.Updating.{with_time, with_digest_by, with_digest, with_digests, with_digests_of}
use Rattle.bi_fit.specs.Updating.{images_with_digests, with_changes}
use Rattle.bi_fit.specs.UpdateLaws.{HaveTime, HaveDigest, IsUpdatedChild, AreUpdatedChildren, IsUpdatedImage, IsKeptChild, HasDigests}
use Rattle.bi_fit.specs.UpdateLaws.{EachUpdateHasItsChanges}
use Rattle.bi_fit.proofs.PayloadProperties.{get-put, get-put_other}
use Rattle.bi_fit.proofs.UpdatedVerdicts.{images_of-updated}

-- An updated tree has the changes of the update and no others.

-- Names that are not the same are found different.
not_equal : (name other : List ℕ) → name ≢ other → bytes_eq name other ≡ false
not_equal name other apart = search (rules, same_bytes)

time_is : (time : Option ℕ) (properties : PropertyMap) → HaveTime time properties (with_time time properties)
time_is None properties = refl
time_is (Some time) properties = search (rules, get-put, get-put_other, not_equal)

digest_is : (algo : Option Algo) (payload : List ℕ) (properties : PropertyMap) →
    HaveDigest algo payload properties (with_digest_by algo payload properties)
digest_is None payload properties = refl
digest_is (Some algo) payload properties = search (rules, get-put, get-put_other, not_equal)

child_digest_is : (payload name : List ℕ) (properties : PropertyMap) →
    HaveDigest (hash_algorithm name properties) payload properties (with_digest payload name properties)
child_digest_is payload name properties = search (rules, digest_is)

children_are : (payload : List ℕ) (nodes : Nodes PropertyMap) →
    AllZip (IsUpdatedChild payload) (siblings nodes) (siblings (with_digests payload nodes))
children_are payload none = tt
children_are payload (node name own children later) =
    (record { name = refl; own = child_digest_is payload name own; children = refl }, children_are payload later)

children_of_image_are : (payload : Option (List ℕ)) (nodes : Nodes PropertyMap) →
    AreUpdatedChildren payload nodes (with_digests_of payload nodes)
children_of_image_are None nodes = refl
children_of_image_are (Some payload) nodes = children_are payload nodes

images_are : (payloads : List (Option (List ℕ))) (nodes : Nodes PropertyMap) →
    AllZip IsUpdatedImage (images_with (siblings nodes) payloads) (images_with (siblings (images_with_digests payloads nodes)) payloads)
images_are [] none = tt
images_are [] (node name own children later) = tt
images_are (payload ∷ payloads) none = tt
images_are (payload ∷ payloads) (node name own children later) =
    (record { payload = refl; name = refl; own = refl; children = children_of_image_are payload children }, images_are payloads later)

-- Nodes that are as they were.
kept : (nodes : Nodes PropertyMap) → AllZip IsKeptChild (siblings nodes) (siblings nodes)
kept none = tt
kept (node name own children later) = (record { name = refl; own = refl; children = λ apart. refl }, kept later)

-- Only the children of the node `images` change.
root_children_are : (change : Nodes PropertyMap → Nodes PropertyMap) (nodes : Nodes PropertyMap) →
    AllZip IsKeptChild (siblings nodes) (siblings (with_children_of images_name change nodes))
root_children_are change none = tt
root_children_are change (node name own children later) = search (rules, same_bytes, kept, root_children_are change later)

nodes_are : (changes : Changes) (tree : ImageTree) → (hashes : Bool) → changes.hashes ≡ hashes →
    HasDigests hashes tree (with_changes changes tree)
nodes_are changes tree false is = rw is refl
nodes_are changes tree true is = search (rules, root_children_are, images_of-updated, images_are)

pub each_update_has_its_changes : EachUpdateHasItsChanges
each_update_has_its_changes changes tree = search (rules, time_is, nodes_are)
