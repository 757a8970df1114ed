use Rattle.std.proofs.Common.{◌≡◌, ℕ, Bool, true, false, List, [], ◌∷◌, ◌++◌, take, drop, length, Option, Some, None, refl, sym, ap, ap₂}
use Rattle.std.proofs.Common.{◌∙◌, append_assoc, length-append, rules}
use Rattle.std.proofs.Math.Seq.{take-append_seam, drop-append_seam}
use Rattle.std.specs.FinMap.{insert}
use Rattle.bi_blob.specs.Tree.{Nodes, none, node, PropertyMap}
use Rattle.bi_hash.specs.declared.algo.Algo.{Algo}
use Rattle.bi_hash.specs.Digests.{digest_of}
use Rattle.bi_hash.proofs.DigestBytes.{length-digest_of}
use Rattle.bi_fit.specs.Names.{value_name}
use Rattle.bi_fit.specs.ImageTree.{without_payloads}
use Rattle.bi_fit.specs.Updating.{with_digest_by, with_digest, with_digests, images_with_digests}
use Rattle.bi_fit.specs.NewDigests.{hash_algorithm, digest_by, digests_for, digests_of_images, digests_if_changed}
use Rattle.bi_fit.specs.TakenDigests.{HasDigest, with_first_digest, after_digest, HaveDigests, with_digests_from, after_digests, is_hashed}
use Rattle.bi_fit.specs.TakenDigests.{HaveImageDigests, images_with_digests_from}
use Rattle.bi_fit.proofs.UpdatedTrees.{new_images}

-- The digests of image nodes are taken in turn from the bytes that hold them, and the properties of the nodes make no difference.

-- The digest by an algorithm is taken from the bytes that begin with it.
module _ (payload rest digests : List ℕ) (properties : PropertyMap) where
  has_digest : (algo : Option Algo) → digests ≡ digest_by algo payload ++ rest → HasDigest algo digests
  has_digest None is = tt
  has_digest (Some algo) is = search (rules, length-append, length-digest_of)

  same_first : (algo : Option Algo) → digests ≡ digest_by algo payload ++ rest →
      with_first_digest algo digests properties ≡ with_digest_by algo payload properties
  same_first None is = refl
  same_first (Some algo) is =
      ap (insert properties value_name)
      (ap (λ n. take n digests) (sym (length-digest_of algo payload))
      ∙ ap (take (length (digest_of algo payload))) is
      ∙ take-append_seam (digest_of algo payload) rest)

  left_after : (algo : Option Algo) → digests ≡ digest_by algo payload ++ rest → after_digest algo digests ≡ rest
  left_after None is = is
  left_after (Some algo) is =
      ap (λ n. drop n digests) (sym (length-digest_of algo payload))
      ∙ ap (drop (length (digest_of algo payload))) is
      ∙ drop-append_seam (digest_of algo payload) rest

-- A child of an image node has the digest by its algorithm.
with_digest_is : (payload name : List ℕ) (properties : PropertyMap) →
    with_digest payload name properties ≡ with_digest_by (hash_algorithm name properties) payload properties
with_digest_is payload name properties = search rules

-- The children of an image node take their digests from the bytes, and leave others.
record IsTaken (hashed : Bool) (digests : List ℕ) (nodes : Nodes PropertyMap) (taken : Nodes PropertyMap) (rest : List ℕ) : Type 0 where
  there : HaveDigests hashed digests nodes
  same : with_digests_from hashed digests nodes ≡ taken
  left : after_digests hashed digests nodes ≡ rest

-- They do so if the bytes begin with their digests.
taken_in_turn : (payload rest : List ℕ) (nodes : Nodes PropertyMap) (digests : List ℕ) → digests ≡ digests_for payload nodes ++ rest →
    IsTaken true digests nodes (with_digests payload nodes) rest
taken_in_turn payload rest none digests is = record { there = tt; same = refl; left = is }
taken_in_turn payload rest (node name own children later) digests is =
    let algo = hash_algorithm name own in
    let others = digests_for payload later ++ rest in
    let whole : digests ≡ digest_by algo payload ++ others = is ∙ append_assoc (digest_by algo payload) (digests_for payload later) rest in
    let later_taken : IsTaken true (after_digest algo digests) later (with_digests payload later) rest =
    taken_in_turn payload rest later (after_digest algo digests) (left_after payload others digests own algo whole) in
    record {
      there = (has_digest payload others digests own algo whole, later_taken.there);
      same = ap₂ (λ own later. node name own children later)
          (same_first payload others digests own algo whole ∙ sym (with_digest_is payload name own)) later_taken.same;
      left = later_taken.left;
    }

-- Without new digests they take none.
none_taken : (nodes : Nodes PropertyMap) (digests : List ℕ) → IsTaken false digests nodes nodes digests
none_taken none digests = record { there = tt; same = refl; left = refl }
none_taken (node name own children later) digests = search (rules, none_taken later digests)

-- The same of image nodes.
pub record AreTaken (hashes : Bool) (payloads : List (Option (List ℕ))) (digests : List ℕ) (nodes : Nodes PropertyMap)
    (taken : Nodes PropertyMap) : Type 0 where
  pub there : HaveImageDigests hashes payloads digests nodes
  pub same : images_with_digests_from hashes payloads digests nodes ≡ taken

-- One image node and others.
one_more_image : (hashes : Bool) (payload : Option (List ℕ)) (payloads : List (Option (List ℕ))) (digests rest : List ℕ) (name : List ℕ)
    (own : PropertyMap) (children later taken others : Nodes PropertyMap) → IsTaken (is_hashed hashes payload) digests children taken rest →
    AreTaken hashes payloads rest later others →
    AreTaken hashes (payload ∷ payloads) digests (node name own children later) (node name own taken others)
one_more_image hashes payload payloads digests rest name own children later taken others first images = search rules

taken_by_images : (payloads : List (Option (List ℕ))) (nodes : Nodes PropertyMap) (digests : List ℕ) →
    digests ≡ digests_of_images payloads nodes → AreTaken true payloads digests nodes (images_with_digests payloads nodes)
taken_by_images [] nodes digests is = record { there = tt; same = refl }
taken_by_images (payload ∷ payloads) none digests is = record { there = tt; same = refl }
taken_by_images (None ∷ payloads) (node name own children later) digests is =
    one_more_image true None payloads digests digests name own children later children (images_with_digests payloads later)
    (none_taken children digests) (taken_by_images payloads later digests is)
taken_by_images (Some payload ∷ payloads) (node name own children later) digests is =
    one_more_image true (Some payload) payloads digests (digests_of_images payloads later) name own children later
    (with_digests payload children) (images_with_digests payloads later)
    (taken_in_turn payload (digests_of_images payloads later) children digests is)
    (taken_by_images payloads later (digests_of_images payloads later) refl)

none_taken_by_images : (payloads : List (Option (List ℕ))) (nodes : Nodes PropertyMap) (digests : List ℕ) →
    AreTaken false payloads digests nodes nodes
none_taken_by_images [] nodes digests = record { there = tt; same = refl }
none_taken_by_images (payload ∷ payloads) none digests = record { there = tt; same = refl }
none_taken_by_images (None ∷ payloads) (node name own children later) digests =
    one_more_image false None payloads digests digests name own children later children later
    (none_taken children digests) (none_taken_by_images payloads later digests)
none_taken_by_images (Some payload ∷ payloads) (node name own children later) digests =
    one_more_image false (Some payload) payloads digests digests name own children later children later
    (none_taken children digests) (none_taken_by_images payloads later digests)

pub are_taken : (hashes : Bool) (payloads : List (Option (List ℕ))) (nodes : Nodes PropertyMap) (digests : List ℕ) →
    digests ≡ digests_if_changed hashes payloads nodes → AreTaken hashes payloads digests nodes (new_images hashes payloads nodes)
are_taken false payloads nodes digests is = none_taken_by_images payloads nodes digests
are_taken true payloads nodes digests is = taken_by_images payloads nodes digests is

-- The properties of image nodes themselves make no difference.
pub digests_bare : (hashes : Bool) (payloads : List (Option (List ℕ))) (digests : List ℕ) (nodes : Nodes PropertyMap) →
    HaveImageDigests hashes payloads digests (without_payloads nodes) → HaveImageDigests hashes payloads digests nodes
digests_bare hashes [] digests nodes have = tt
digests_bare hashes (payload ∷ payloads) digests none have = tt
digests_bare hashes (payload ∷ payloads) digests (node name own children later) have =
    (have.0, digests_bare hashes payloads (after_digests (is_hashed hashes payload) digests children) later have.1)
