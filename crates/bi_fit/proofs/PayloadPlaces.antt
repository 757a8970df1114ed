use Rattle.std.proofs.Common.{◌≡◌, ℕ, ◌+◌, ◌-◌, ◌/◌, ◌%◌, List, [], ◌∷◌, length, Option, Some, None, IfSome, sym, ap, subst, ◌∙◌}
use Rattle.std.proofs.Math.Nat.{add-mul-mod_self_left}
use Rattle.std.specs.List.{AllZip}
use Rattle.std.specs.FinMap.{entries}
use Rattle.bi_base.specs.Cells.{up_to}
use Rattle.bi_blob.specs.Tree.{Nodes, none, node, PropertyMap, FileNode, with_each}
use Rattle.bi_blob.specs.Events.{NodeStart, events}
use Rattle.bi_blob.specs.Layout.{event_width, place_after_events, with_places}
use Rattle.bi_fit.specs.ImageTree.{IsApart, each_own, image_nodes}
use Rattle.bi_fit.specs.Payloads.{source_of, payload_place, external_base}
use Rattle.bi_fit.specs.Text.{alignment_of, with_payload, with_payloads, end_after, payload_places, blob_of, fit_text}
use Rattle.bi_fit.specs.Laws.{ExternalPayloadsArePlaced}
use Rattle.bi_fit.proofs.Meanings.{same_in_some}
use Rattle.bi_fit.proofs.PayloadSources.{external_place}
use Rattle.bi_fit.proofs.FileTrees.{is_image_tree}
use Rattle.bi_fit.proofs.Texts.{blob_of_text, text_has_payloads, text_images, text_base}
use Rattle.bi_fit.proofs.PayloadAreas.{AreThere}
use Rattle.bi_fit.proofs.TextLaws.{each_external_text_has_its_length}

-- The image nodes of an external text place their payloads where these begin.

-- An image node places its payload here, at a multiple of the alignment.
abbrev pub IsAlignedPlace : (align : ℕ) → List ℕ → FileNode → Option ℕ → Type 0
IsAlignedPlace align file own place = (payload_place file (source_of own) ≡ place) × IfSome place (λ offset. offset % align ≡ 0)

-- What begins at a multiple after a multiple is at one.
sum-whole : (align base end : ℕ) → base % align ≡ 0 → (base + up_to align end) % align ≡ 0
sum-whole align base end whole = add-mul-mod_self_left base align ((end + (align - 1)) / align) ∙ whole

-- The image nodes of an external text place their payloads.
pub place_payloads : (align : ℕ) (file : List ℕ) (at end : ℕ) (payloads : List (Option (List ℕ))) (nodes : Nodes PropertyMap) →
    AllZip IsApart (each_own nodes) payloads → AreThere (Some align) file end payloads → external_base file % align ≡ 0 →
    AllZip (IsAlignedPlace align file)
    (each_own (with_places at (with_each entries (with_payloads (Some align) end payloads nodes))))
    (payload_places align (external_base file) end payloads)
place_payloads align file at end [] none apart there whole = tt
place_payloads align file at end [] (node name own children later) apart there whole = absurd apart
place_payloads align file at end (payload ∷ payloads) none apart there whole = absurd apart
place_payloads align file at end (None ∷ payloads) (node name own children later) apart there whole = (
  (external_place file at (at + event_width (NodeStart name)) (up_to align end) align own None apart.0 there.0, tt),
  place_payloads align file (place_after_events at
      (events (node name (entries (with_payload (Some align) (up_to align end) None own)) (with_each entries children) none)))
      end payloads later apart.1 there.1 whole,
)
place_payloads align file at end (Some payload ∷ payloads) (node name own children later) apart there whole = (
  (
    external_place file at (at + event_width (NodeStart name)) (up_to align end) align own (Some payload) apart.0 there.0,
    sum-whole align (external_base file) end whole,
  ),
  place_payloads align file (place_after_events at
      (events (node name (entries (with_payload (Some align) (up_to align end) (Some payload) own)) (with_each entries children) none)))
      (end_after align end (Some payload)) payloads later apart.1 there.1 whole,
)

pub external_payloads_are_placed : ExternalPayloadsArePlaced
external_payloads_are_placed form align tree aligned short is =
    let text = fit_text form tree in
    let tree_is = is_image_tree text tree is in
    let blob = blob_of_text form tree tree_is short in
    let found = text_images form tree tree_is in
    let root = (blob.only tree.cpu tree.reservations is.root is.blob).same_root in
    let images = same_in_some _ is.images (sym found.1 ∙ ap image_nodes root ∙ is.has_images) in
    let base = text_base form tree tree_is short in
    let whole = ap (λ n. n % align) base ∙ (each_external_text_has_its_length form align tree aligned).blob_is_whole in
    subst (λ nodes. AllZip (IsAlignedPlace align text) (each_own nodes) (payload_places align (length (blob_of form tree)) 0 tree.payloads))
    images
    (subst (λ base. AllZip (IsAlignedPlace align text)
    (each_own (with_places found.0 (with_each entries (with_payloads (alignment_of form) 0 tree.payloads tree_is.images))))
    (payload_places align base 0 tree.payloads)) base
    (subst (λ alignment. AllZip (IsAlignedPlace align text)
    (each_own (with_places found.0 (with_each entries (with_payloads alignment 0 tree.payloads tree_is.images))))
    (payload_places align (external_base text) 0 tree.payloads)) (sym aligned)
    (place_payloads align text found.0 0 tree.payloads tree_is.images tree_is.apart
    (subst (λ alignment. AreThere alignment text 0 tree.payloads) aligned (text_has_payloads form tree tree_is short)) whole)))
