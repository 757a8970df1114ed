use Rattle.std.specs.Prelude.{ℕ, ◌+◌, List, [], ◌∷◌, ◌++◌, Option, Some, None, length}
use Rattle.std.specs.FinMap.{insert}
use Rattle.bi_base.specs.Aligns.{align_bytes}
use Rattle.bi_base.specs.Cells.{cell, up_to}
use Rattle.bi_blob.specs.Tree.{Nodes, none, node, Root, Property, PropertyMap}
use Rattle.bi_blob.specs.Layout.{padding_to, text_of_tree, in_byte_order}
use Rattle.bi_fit.specs.declared.form.Form.{Form}
use Rattle.bi_fit.specs.declared.form.Form.TheVariants.{Embedded, External, Aligned}
use Rattle.bi_fit.specs.Names.{data_name, data_offset_name, data_size_name}
use Rattle.bi_fit.specs.ImageTree.{ImageTree, with_image_nodes}

-- The normal texts of a flattened image tree (profile of this project). In the form Embedded each
-- payload is the value of a property `data`. In the form External the payloads follow the blob, in
-- the order of the image nodes, and the properties `data-offset` and `data-size` of each image
-- node have their offsets and sizes. In this form the alignment is 4. The form Aligned is the same
-- with the alignment that it gives.

-- The alignment of the payloads that follow the blob in a form: each begins at a multiple of it,
-- and the length of the blob is one too. In the form Embedded no payload follows the blob.
abbrev pub alignment_of : Form → Option ℕ
alignment_of Embedded = None
alignment_of External = Some 4
alignment_of (Aligned align) = Some (align_bytes align)

-- The alignment of the blob's length: that of the payloads after it, or 4 if none follow.
abbrev pub blob_alignment : Option ℕ → ℕ
blob_alignment None = 4
blob_alignment (Some align) = align

-- The properties of an image node, with those that give its payload: it follows the blob if there
-- is an alignment. `begin` is its offset from the end of the blob. An image node without a payload
-- has none of the four properties.
abbrev pub with_payload : (alignment : Option ℕ) → (begin : ℕ) → Option (List ℕ) → PropertyMap
    → PropertyMap
with_payload alignment begin None properties = properties
with_payload None begin (Some payload) properties = insert properties data_name payload
with_payload (Some align) begin (Some payload) properties =
    insert (insert properties data_offset_name (cell begin)) data_size_name (cell (length payload))

-- Where the external payloads end once there is one more, if they ended at `end` before it: it
-- begins at the first multiple of `align` from there on. Offsets are counted from the end of the
-- blob.
abbrev pub end_after : (align end : ℕ) → Option (List ℕ) → ℕ
end_after align end None = end
end_after align end (Some payload) = up_to align end + length payload

-- Where these external payloads end, if those before them end at `end`.
abbrev pub payloads_end : (align end : ℕ) → List (Option (List ℕ)) → ℕ
payloads_end align end [] = end
payloads_end align end (payload ∷ later) = payloads_end align (end_after align end payload) later

-- The offset in the text of each of these external payloads, if there is a payload. The blob has
-- `base` bytes, and the payloads before them end at `end`.
abbrev pub payload_places : (align base end : ℕ) → List (Option (List ℕ)) → List (Option ℕ)
payload_places align base end [] = []
payload_places align base end (None ∷ later) = None ∷ payload_places align base end later
payload_places align base end (Some payload ∷ later) =
    Some (base + up_to align end)
    ∷ payload_places align base (end_after align end (Some payload)) later

-- Image nodes with the properties that give their payloads, if the external payloads before theirs
-- end at `end`. There are as many payload entries as nodes.
abbrev pub with_payloads : (alignment : Option ℕ) → (end : ℕ) → List (Option (List ℕ))
    → Nodes PropertyMap → Nodes PropertyMap
with_payloads alignment end [] nodes = nodes
with_payloads alignment end (payload ∷ payloads) none = none
with_payloads alignment end (payload ∷ payloads) (node name own children later) =
    let align = blob_alignment alignment in
    node name (with_payload alignment (up_to align end) payload own) children
    (with_payloads alignment (end_after align end payload) payloads later)

-- The tree of a text: the image nodes have the properties that give their payloads, and the
-- properties of each node are by name in byte order.
abbrev pub normal_tree : Form → ImageTree → Root (List Property)
normal_tree form tree =
    in_byte_order (with_image_nodes (with_payloads (alignment_of form) 0 tree.payloads) tree.root)

-- The blob of a text.
abbrev pub blob_of : Form → ImageTree → List ℕ
blob_of form tree =
    text_of_tree (blob_alignment (alignment_of form)) tree.cpu tree.reservations
    (normal_tree form tree)

-- These external payloads, if those before them end at `end`: before each, even before an empty
-- one, zeros up to a multiple of `align`.
abbrev pub payload_area : (align end : ℕ) → List (Option (List ℕ)) → List ℕ
payload_area align end [] = []
payload_area align end (None ∷ later) = payload_area align end later
payload_area align end (Some payload ∷ later) =
    padding_to align end
    ++ (payload ++ payload_area align (end_after align end (Some payload)) later)

-- What follows the blob of a text, by the payloads of its images: all of them, if there is an
-- alignment.
abbrev pub payloads_after : (alignment : Option ℕ) → List (Option (List ℕ)) → List ℕ
payloads_after None payloads = []
payloads_after (Some align) payloads = payload_area align 0 payloads

-- What follows the blob of the text of a tree.
abbrev pub after_blob : Form → ImageTree → List ℕ
after_blob form tree = payloads_after (alignment_of form) tree.payloads

-- The text: the blob and, unless the form is Embedded, the payloads. Nothing follows the last
-- payload.
abbrev pub fit_text : Form → ImageTree → List ℕ
fit_text form tree = blob_of form tree ++ after_blob form tree
