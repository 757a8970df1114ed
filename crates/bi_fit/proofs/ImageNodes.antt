use Rattle.std.proofs.Common.{◌≡◌, ℕ, ◌+◌, ◌≤◌, Bool, List, [], ◌∷◌, length, Option, Some, None, refl, ap, arith, rules}
use Rattle.std.specs.FinMap.{insert, entries}
use Rattle.bi_blob.specs.Tree.{Nodes, none, node, Property, PropertyMap, FileNode, EachOwn}
use Rattle.bi_blob.specs.Lookups.{Sibling}
use Rattle.bi_blob.specs.Events.{Event}
use Rattle.bi_blob.specs.Layout.{longest_text}
use Rattle.bi_hash.specs.declared.algo.Algo.{Algo}
use Rattle.bi_fit.specs.declared.form.Form.{Form}
use Rattle.bi_fit.specs.declared.form.Form.TheVariants.{Embedded}
use Rattle.bi_fit.specs.Names.{data_name}
use Rattle.bi_fit.specs.ImageTree.{without_payload}
use Rattle.bi_fit.specs.Text.{alignment_of, blob_alignment, with_payload, with_payloads, end_after}
use Rattle.bi_lay.specs.Contents.{Doc}
use Rattle.bi_fit.specs.TakenDigests.{HaveImageDigests, algorithm_if_hashed, with_first_digest}
use Rattle.bi_fit.specs.NormalNodes.{HasCellSize, HasDistinctNames, next_begin, next_end}
use Rattle.bi_fit.specs.NormalNodes.{AreWithin, properties_by_name, nodes_by_name, begin_events}
use Rattle.bi_fit.specs.NormalNodes.{image_properties}
use Rattle.bi_fit.specs.NormalNodes.{sorted_image_children, sorted_images}
use Rattle.bi_fit.proofs.FormAlignments.{form-positive}
use Rattle.bi_fit.proofs.PayloadAreas.{payloads_end-le}
use Rattle.bi_fit.proofs.AddedEvents.{begin_events-same}
use Rattle.bi_fit.proofs.NodeEvents.{IsAdding}

-- An image node of a file that is added to a document is that of the normal text, and its payload ends within the longest text.

-- An image node without its siblings, with these properties in byte order.
abbrev pub sorted_image : PropertyMap → (hashed : Bool) → (digests : List ℕ) → Sibling FileNode
    → Nodes (List Property)
sorted_image properties hashed digests sibling =
    node sibling.name (entries properties)
    (sorted_image_children hashed digests sibling.children) none

-- The properties of a child of an image node, with the first of these digests if it gets one.
abbrev pub child_properties : (hashed : Bool) → (digests : List ℕ) → Sibling FileNode → PropertyMap
child_properties hashed digests s =
    with_first_digest (algorithm_if_hashed hashed s.name (properties_by_name s.own)) digests (properties_by_name s.own)

-- The events with which it begins.
abbrev pub child_begin : (hashed : Bool) → (digests : List ℕ) → Sibling FileNode → List Event
child_begin hashed digests s = begin_events s.name (child_properties hashed digests s)

-- It begins with its name and its properties, in which the digest was set.
pub child_begins : (hashed : Bool) (digests : List ℕ) (s : Sibling FileNode) (algo : Option Algo) (name : List ℕ) (read set : PropertyMap) →
    algo ≡ algorithm_if_hashed hashed s.name (properties_by_name s.own) → name ≡ s.name → read ≡ properties_by_name s.own →
    set ≡ with_first_digest algo digests read → begin_events name set ≡ child_begin hashed digests s
child_begins hashed digests s algo name read set same_algo same_name is_read is_set = search (rules, begin_events-same)

-- Embedded payloads have no offsets.
embedded_anywhere : (one other : ℕ) (payloads : List (Option (List ℕ))) (nodes : Nodes PropertyMap) →
    with_payloads None one payloads nodes ≡ with_payloads None other payloads nodes
embedded_anywhere one other [] nodes = refl
embedded_anywhere one other (payload ∷ payloads) none = refl
embedded_anywhere one other (None ∷ payloads) (node name own children later) =
    ap (node name own children) (embedded_anywhere one other payloads later)
embedded_anywhere one other (Some payload ∷ payloads) (node name own children later) =
    ap (node name (insert own data_name payload) children)
    (embedded_anywhere (end_after 4 one (Some payload)) (end_after 4 other (Some payload)) payloads later)

-- The image nodes after the first.
pub images-later : (hashes : Bool) (form : Form) (end : ℕ) (payload : Option (List ℕ)) (payloads : List (Option (List ℕ)))
    (digests : List ℕ) (nodes : Nodes FileNode) →
    sorted_images hashes form (end_after (blob_alignment (alignment_of form)) end payload) payloads digests nodes
    ≡ sorted_images hashes form (next_end form end payload) payloads digests nodes
images-later hashes Embedded end payload payloads digests nodes = search (rules, embedded_anywhere)
images-later hashes form end payload payloads digests nodes = refl

-- Where payloads are within the longest text, the size of the first fits a cell,
pub within_sized : (form : Form) (end : ℕ) (payload : Option (List ℕ)) (payloads : List (Option (List ℕ))) →
    AreWithin form end (payload ∷ payloads) → HasCellSize form payload
within_sized Embedded end payload payloads within = tt
within_sized form end None payloads within = tt
within_sized form end (Some payload) payloads within =
    omega (
      arith,
      within,
      payloads_end-le (blob_alignment (alignment_of form)) (next_begin form end + length payload) payloads
          (form-positive form),
    )

-- the first ends within it,
pub within_first : (form : Form) (end : ℕ) (payload : Option (List ℕ)) (payloads : List (Option (List ℕ))) →
    AreWithin form end (payload ∷ payloads) → end ≤ longest_text → next_end form end payload ≤ longest_text
within_first Embedded end payload payloads within small = small
within_first form end payload payloads within small =
    omega (arith, within, payloads_end-le (blob_alignment (alignment_of form)) (next_end form end payload) payloads (form-positive form))

-- and the others are too.
pub within_later : (form : Form) (end : ℕ) (payload : Option (List ℕ)) (payloads : List (Option (List ℕ))) →
    AreWithin form end (payload ∷ payloads) → AreWithin form (next_end form end payload) payloads
within_later Embedded end payload payloads within = tt
within_later form end payload payloads within = within

-- An image node of a file that is added is that of the text.
pub added_is_sorted : (one form : Form) (end : ℕ) (payload : Option (List ℕ)) (digests : List ℕ)
    (s : Sibling FileNode) (name : List ℕ) (own : PropertyMap) (was hashed : Bool) →
    one ≡ form → name ≡ s.name → own ≡ properties_by_name s.own → was ≡ hashed →
    node name (entries (with_payload (alignment_of one) (next_begin one end) payload (without_payload own)))
    (sorted_image_children was digests s.children) none
    ≡ sorted_image (image_properties form (next_begin form end) payload s.own) hashed digests s
added_is_sorted one form end payload digests s name own was hashed same_form same_name same_own same_hashed = search rules

-- Image nodes are left to be added to a document, which is then another, and these are the payloads and the digests that are left.
pub record AreImagesLeft (hashes : Bool) (form : Form) (document target : Doc) (end : ℕ) (payloads : List (Option (List ℕ)))
    (digests : List ℕ) (nodes : Nodes FileNode) : Type 0 where
  pub adding : IsAdding document target (sorted_images hashes form end payloads digests nodes)
  pub distinct : EachOwn HasDistinctNames nodes
  pub has_digests : HaveImageDigests hashes payloads digests (nodes_by_name nodes)
  pub within : AreWithin form end payloads
  pub small : end ≤ longest_text
