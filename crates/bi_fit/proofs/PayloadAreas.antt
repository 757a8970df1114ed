use Rattle.std.proofs.Common.{◌≡◌, ℕ, ◌+◌, ◌^◌, ◌<◌, ◌≤◌, List, [], ◌∷◌, ◌++◌, length, Option, Some, None, sym, ap, ◌∙◌, arith}
use Rattle.std.proofs.Common.{length-append, append_assoc}
use Rattle.std.specs.Prelude.{⊤}
use Rattle.std.specs.List.{AllZip}
use Rattle.std.specs.FinMap.{entries}
use Rattle.bi_base.specs.Cells.{slice, up_to}
use Rattle.bi_base.proofs.AlignmentLaws.{up_to-le}
use Rattle.bi_base.proofs.CellLaws.{slice-append}
use Rattle.bi_blob.specs.Tree.{Nodes, none, node, PropertyMap, with_each}
use Rattle.bi_blob.specs.Events.{NodeStart, events}
use Rattle.bi_blob.specs.Layout.{padding_to, event_width, place_after_events, with_places}
use Rattle.bi_blob.proofs.Texts.TextTokens.{length-padding_to}
use Rattle.bi_fit.specs.ImageTree.{each_own, IsApart}
use Rattle.bi_fit.specs.Payloads.{external_base, HasPayload}
use Rattle.bi_fit.specs.Text.{blob_alignment, with_payload, with_payloads, end_after, payloads_end, payload_area}
use Rattle.bi_fit.proofs.PayloadSources.{IsThere, has_payload}

-- A file that goes on with payloads has each payload where it begins, and the image nodes of its text have these payloads.

-- What a file must have of the payloads of image nodes, which follow the blob if there is an alignment.
abbrev pub AreThere : (alignment : Option ℕ) → List ℕ → ℕ → List (Option (List ℕ)) → Type 0
AreThere alignment file end [] = ⊤
AreThere alignment file end (payload ∷ later) =
    IsThere alignment file (up_to (blob_alignment alignment) end) payload
    × AreThere alignment file (end_after (blob_alignment alignment) end payload) later

-- If the payloads do not follow the blob, it is nothing.
pub embedded_are_there : (file : List ℕ) (end : ℕ) (payloads : List (Option (List ℕ))) → AreThere None file end payloads
embedded_are_there file end [] = tt
embedded_are_there file end (payload ∷ later) = (tt, embedded_are_there file (end_after 4 end payload) later)

-- The image nodes of a text have their payloads.
pub have_payloads : (alignment : Option ℕ) (file : List ℕ) (at end : ℕ) (payloads : List (Option (List ℕ))) (nodes : Nodes PropertyMap) →
    AllZip IsApart (each_own nodes) payloads → AreThere alignment file end payloads →
    AllZip (HasPayload file) (each_own (with_places at (with_each entries (with_payloads alignment end payloads nodes)))) payloads
have_payloads alignment file at end [] none apart there = tt
have_payloads alignment file at end [] (node name own children later) apart there = absurd apart
have_payloads alignment file at end (payload ∷ payloads) none apart there = absurd apart
have_payloads alignment file at end (payload ∷ payloads) (node name own children later) apart there = (
  has_payload file at (at + event_width (NodeStart name)) (up_to (blob_alignment alignment) end) alignment own payload apart.0 there.0,
  have_payloads alignment file
      (place_after_events at (events (node name (entries (with_payload alignment (up_to (blob_alignment alignment) end) payload own))
      (with_each entries children) none)))
      (end_after (blob_alignment alignment) end payload) payloads later apart.1 there.1,
)

-- Payloads end where they begin or after.
pub payloads_end-le : (align end : ℕ) (payloads : List (Option (List ℕ))) → 0 < align → end ≤ payloads_end align end payloads
payloads_end-le align end [] positive = omega arith
payloads_end-le align end (None ∷ later) positive = payloads_end-le align end later positive
payloads_end-le align end (Some payload ∷ later) positive =
    let rest : up_to align end + length payload ≤ payloads_end align (up_to align end + length payload) later = payloads_end-le align
    (up_to align end + length payload) later positive in
    omega (arith, rest, up_to-le align end positive)

-- How many bytes the payloads take, with the zeros before them.
pub length-payload_area : (align end : ℕ) (payloads : List (Option (List ℕ))) → 0 < align →
    end + length (payload_area align end payloads) ≡ payloads_end align end payloads
length-payload_area align end [] positive = omega arith
length-payload_area align end (None ∷ later) positive = length-payload_area align end later positive
length-payload_area align end (Some payload ∷ later) positive =
    let next : ℕ = up_to align end + length payload in
    let rest : next + length (payload_area align next later)
    ≡ payloads_end align next later = length-payload_area align next later positive in
    let pad : end + length (padding_to align end) ≡ up_to align end = length-padding_to align end positive in
    omega (
      arith,
      rest,
      pad,
      length-append (padding_to align end) (payload ++ payload_area align next later),
      length-append payload (payload_area align next later),
    )

-- A file that goes on with payloads has each of them where it begins.
pub external_are_there : (align : ℕ) (file front : List ℕ) (end : ℕ) (payloads : List (Option (List ℕ))) → 0 < align →
    file ≡ front ++ payload_area align end payloads → length front ≡ external_base file + end → length file < 2 ^ 32 →
    AreThere (Some align) file end payloads
external_are_there align file front end [] positive is begins short = tt
external_are_there align file front end (None ∷ later) positive is begins short =
    (tt, external_are_there align file front end later positive is begins short)
external_are_there align file front end (Some payload ∷ later) positive is begins short = (
  record {
    begin_fits = omega (arith, long, second, short);
    size_fits = omega (arith, long, short);
    in_file = omega (arith, long, second);
    is_slice = ap (λ n. slice file n (length payload)) (sym second) ∙ ap (λ f. slice f (length (front ++ pad)) (length payload)) parts
        ∙ slice-append (front ++ pad) payload area;
  },
  external_are_there align file ((front ++ pad) ++ payload) (up_to align end + length payload) later positive
      (parts ∙ sym (append_assoc (front ++ pad) payload area))
      (omega (arith, length-append (front ++ pad) payload, second))
      short,
)
  where
    pad : List ℕ
    pad = padding_to align end

    area : List ℕ
    area = payload_area align (up_to align end + length payload) later

    parts : file ≡ (front ++ pad) ++ (payload ++ area)
    parts = is ∙ sym (append_assoc front pad (payload ++ area))

    second : length (front ++ pad) ≡ external_base file + up_to align end
    second = omega (arith, length-append front pad, length-padding_to align end positive, begins)

    long : length file ≡ length (front ++ pad) + (length payload + length area)
    long = ap length parts ∙ omega (arith, length-append (front ++ pad) (payload ++ area), length-append payload area)
