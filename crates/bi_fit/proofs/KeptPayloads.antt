use Rattle.std.proofs.Common.{◌≡◌, ◌⊎◌, ◌↔◌, ℕ, suc, ◌+◌, ◌-◌, ◌%◌, Bool, true, false, List, [], ◌∷◌, ◌++◌, map, filter, length, Option}
use Rattle.std.proofs.Common.{Some, None, rules}
use Rattle.std.proofs.Common.{◌<◌, ◌≤◌, drop, get_or, IfSome, inl, inr, refl, sym, ap, subst, ◌∙◌, add-one, is_some, true≢false, arith}
use Rattle.std.proofs.Math.Seq.{drop-cons}
use Rattle.std.proofs.lemmas.List.{drop_all}
use Rattle.std.specs.Prelude.{if◌then◌else◌, IsNone}
use Rattle.std.specs.List.{AllZip}
use Rattle.bi_base.specs.Cells.{up_to}
use Rattle.bi_fit.specs.declared.image.Image.{Image}
use Rattle.bi_fit.specs.declared.image.Place.{Place}
use Rattle.bi_fit.specs.declared.image.Place.TheVariants.{Absent, Data, DataOffset, DataPosition}
use Rattle.bi_fit.specs.Content.{ImageModel, image_model, FitModel, IsHeld, IsReadImage, tree_of}
use Rattle.bi_fit.specs.NormalNodes.{payloads_of}
use Rattle.bi_fit.specs.Kept.{PlacedPayload, payload_if_placed, placed_payloads, AreAlignedInFile, AreAlignedInText}
use Rattle.bi_fit.specs.Kept.{IsAlignmentOf, LosesAlignment}
use Rattle.bi_fit.specs.Kept.{places_of_nodes, external_places, IsKeptOf, IsKeptOfFile}
use Rattle.bi_fit.specs.KeptImages.{offset_if_placed, is_at_position, placed_images, placed_offset, AreAlignedImages, IsAlignmentOfImages}
use Rattle.bi_fit.specs.KeptImages.{has_position}
use Rattle.bi_fit.specs.Text.{end_after, payloads_end, payload_places, blob_of, fit_text}
use Rattle.bi_fit.specs.declared.form.Form.{Form}
use Rattle.bi_fit.specs.declared.form.Form.TheVariants.{Embedded, External, Aligned}
use Rattle.bi_base.specs.Aligns.{align_bytes}
use Rattle.bi_fit.specs.Documents.{length_after_blob}
use Rattle.bi_blob.specs.Lookups.{siblings}
use Rattle.bi_blob.specs.Tree.{Nodes, none, node, FileNode}
use Rattle.bi_fit.specs.ImageTree.{ImageTree, image_nodes, nodes_or_none}
use Rattle.bi_fit.proofs.Meanings.{same_in_some}
use Rattle.bi_fit.specs.File.{IsFitFile}
use Rattle.bi_fit.specs.declared.kept.Kept.{Kept}
use Rattle.bi_fdt.specs.Content.{root_of}
use Rattle.bi_fit.proofs.NormalTrees.{some_nodes}
use Rattle.bi_fit.proofs.ReadBlobs.{read_payloads}
use Rattle.bi_fit.proofs.TextLaws.{each_external_text_has_its_length}

-- The payloads of images that count, image by image.

-- The payload of an image does not count,
pub record IsLeftOut (place : Place) (payload : Option (List ℕ)) (new : ℕ) : Type 0 where
  pub no_offset : offset_if_placed place payload ≡ None
  pub no_payload : payload_if_placed place payload (Some new) ≡ []
  pub no_position : is_at_position place payload ≡ false

-- or it does.
abbrev pub offsets_of_payload : (old new : ℕ) → Bool → PlacedPayload
offsets_of_payload old new position = record { old_offset = old; new_offset = new; has_position = position }

pub record IsCounted (place : Place) (payload : Option (List ℕ)) (new : ℕ) : Type 0 where
  pub old : ℕ
  pub offset : offset_if_placed place payload ≡ Some old
  pub one : payload_if_placed place payload (Some new) ≡ offsets_of_payload old new (is_at_position place payload) ∷ []

pub placed_cases : (place : Place) (payload : Option (List ℕ)) (new : ℕ) → IsLeftOut place payload new ⊎ IsCounted place payload new
placed_cases Absent payload new = inl (record { no_offset = refl; no_payload = refl; no_position = refl })
placed_cases (Data at) payload new = inl (record { no_offset = refl; no_payload = refl; no_position = refl })
placed_cases (DataOffset at) None new = inl (record { no_offset = refl; no_payload = refl; no_position = refl })
placed_cases (DataOffset at) (Some []) new = inl (record { no_offset = refl; no_payload = refl; no_position = refl })
placed_cases (DataOffset at) (Some (byte ∷ later)) new = inr (record { old = at; offset = refl; one = refl })
placed_cases (DataPosition at) None new = inl (record { no_offset = refl; no_payload = refl; no_position = refl })
placed_cases (DataPosition at) (Some []) new = inl (record { no_offset = refl; no_payload = refl; no_position = refl })
placed_cases (DataPosition at) (Some (byte ∷ later)) new = inr (record { old = at; offset = refl; one = refl })

-- An image without a payload has none that counts.
no_payload : (place : Place) (new : Option ℕ) → payload_if_placed place None new ≡ []
no_payload Absent new = refl
no_payload (Data at) new = refl
no_payload (DataOffset at) new = refl
no_payload (DataPosition at) new = refl

-- The places of images.
abbrev pub places_of_images : List Image → List Place
places_of_images images = map (λ image. image.place) (map image_model images)

-- They are those of the places, the payloads and the offsets in the text.
pub placed_images-same : (base end : ℕ) (images : List Image) →
    placed_payloads (places_of_images images) (payloads_of images) (payload_places 4 base end (payloads_of images))
    ≡ placed_images base end images
placed_images-same base end [] = refl
placed_images-same base end (image ∷ later) = by (λ end. placed_images-same base end later) (image_model image).payload
  where
    by : ((end : ℕ) →
        placed_payloads (places_of_images later) (payloads_of later) (payload_places 4 base end (payloads_of later))
        ≡ placed_images base end later) → (payload : Option (List ℕ)) →
        placed_payloads (image.place ∷ places_of_images later) (payload ∷ payloads_of later)
        (payload_places 4 base end (payload ∷ payloads_of later))
        ≡ payload_if_placed image.place payload (Some (base + up_to 4 end)) ++ placed_images base (end_after 4 end payload) later
    by more None =
        ap (λ first. first ++ placed_payloads (places_of_images later) (payloads_of later) (payload_places 4 base end (payloads_of later)))
        (no_payload image.place None)
        ∙ more end
        ∙ ap (λ first. first ++ placed_images base end later) (sym (no_payload image.place (Some (base + up_to 4 end))))
    by more (Some payload) =
        ap (λ rest. payload_if_placed image.place (Some payload) (Some (base + up_to 4 end)) ++ rest)
        (more (end_after 4 end (Some payload)))

-- Which of them are aligned in the file, image by image.
pub aligned_images : (bytes base end : ℕ) (images : List Image) →
    AreAlignedInFile bytes (placed_images base end images) ↔ AreAlignedImages bytes images
aligned_images bytes base end [] = (λ all. all, λ all. all)
aligned_images bytes base end (image ∷ later) =
    let new = base + up_to 4 end in
    let payload = (image_model image).payload in
    let rest = placed_images base (end_after 4 end payload) later in
    let more = aligned_images bytes base (end_after 4 end payload) later in
    elim (placed_cases image.place payload new) [
      | inl left_out ↦ (
        λ all. (
          subst (λ offset. IfSome offset (λ offset. offset % bytes ≡ 0)) (sym left_out.no_offset) tt,
          more.0 (subst (λ first. AreAlignedInFile bytes (first ++ rest)) left_out.no_payload all),
        ),
        λ all. subst (λ first. AreAlignedInFile bytes (first ++ rest)) (sym left_out.no_payload) (more.1 all.1),
      )
      | inr is ↦ (
        λ all.
            let each : AreAlignedInFile bytes (offsets_of_payload is.old new (is_at_position image.place payload) ∷ rest) =
            subst (λ first. AreAlignedInFile bytes (first ++ rest)) is.one all in
            (subst (λ offset. IfSome offset (λ offset. offset % bytes ≡ 0)) (sym is.offset) each.0, more.0 each.1),
        λ all.
            subst (λ first. AreAlignedInFile bytes (first ++ rest)) (sym is.one)
            (subst (λ offset. IfSome offset (λ offset. offset % bytes ≡ 0)) is.offset all.0, more.1 all.1),
      )
    ]

-- The payload of an image counts, so it is aligned in the text, if all are.
abbrev pub IsPlacedAligned : (bytes new : ℕ) → Image → Type 0
IsPlacedAligned bytes new image = IfSome (placed_offset (image_model image)) (λ offset. new % bytes ≡ 0)

-- Those of an image and of those after it stay aligned.
pub stay_aligned-cons : (bytes base end : ℕ) (image : Image) (later : List Image) →
    AreAlignedInText bytes (placed_images base end (image ∷ later))
    ↔ (IsPlacedAligned bytes (base + up_to 4 end) image
    × AreAlignedInText bytes (placed_images base (end_after 4 end (image_model image).payload) later))
stay_aligned-cons bytes base end image later = search (rules, placed_cases)

-- It is aligned where it begins, or it does not count.
pub placed_whole : (bytes new : ℕ) (offset : Option ℕ) → new % bytes ≡ 0 → IfSome offset (λ offset. new % bytes ≡ 0)
placed_whole bytes new None whole = tt
placed_whole bytes new (Some offset) whole = whole

pub aligned_without_place : (bytes new : ℕ) (offset : Option ℕ) → is_some offset ≡ false → IfSome offset (λ offset. new % bytes ≡ 0)
aligned_without_place bytes new None is_none = tt
aligned_without_place bytes new (Some offset) is_none = absurd (true≢false is_none)

-- ---- the images from one on

module _ (images : List Image) (i : ℕ) (d : Image) (within : i < length images) where
  -- They are it and those after it.
  pub images_from : drop i images ≡ get_or images i d ∷ drop (i + 1) images
  images_from = rw add-one (drop-cons images i d within)

  -- Those of them that are aligned in the file, if its payload counts, and if it does not.
  pub aligned_some : (bytes offset : ℕ) → placed_offset (image_model (get_or images i d)) ≡ Some offset →
      AreAlignedImages bytes (drop i images) ↔ ((offset % bytes ≡ 0) × AreAlignedImages bytes (drop (i + 1) images))
  aligned_some bytes offset is = search (rules, images_from)

  pub aligned_none : (bytes : ℕ) → placed_offset (image_model (get_or images i d)) ≡ None →
      AreAlignedImages bytes (drop i images) ↔ AreAlignedImages bytes (drop (i + 1) images)
  aligned_none bytes is = search (rules, images_from)

  -- Those that stay aligned in the text.
  pub stay_from : (bytes base end : ℕ) →
      AreAlignedInText bytes (placed_images base end (drop i images))
      ↔ (IsPlacedAligned bytes (base + up_to 4 end) (get_or images i d)
      × AreAlignedInText bytes (placed_images base (end_after 4 end (image_model (get_or images i d)).payload) (drop (i + 1) images)))
  stay_from bytes base end = search (rules, stay_aligned-cons, images_from)

  -- Where the payloads end.
  pub area_ends_from : (end : ℕ) → payloads_end 4 end (payloads_of (drop i images))
      ≡ payloads_end 4 (end_after 4 end (image_model (get_or images i d)).payload) (payloads_of (drop (i + 1) images))
  area_ends_from end = ap (λ images. payloads_end 4 end (payloads_of images)) images_from

-- There are none from the end on.
pub none_from : (images : List Image) (i : ℕ) → length images ≤ i → drop i images ≡ []
none_from images i past = drop_all i images past

-- ---- the alignment of the payloads that count

pub alignment_of_placed : (images : List Image) (base end bytes : ℕ) → IsAlignmentOfImages images bytes →
    IsAlignmentOf (placed_images base end images) bytes
alignment_of_placed images base end bytes is = record {
  is_power = is.is_power;
  divides = (aligned_images bytes base end images).1 is.divides;
  greatest = λ other power all. is.greatest other power ((aligned_images other base end images).0 all);
}

-- There is one.
pub same_alignment : (placed : List PlacedPayload) (one other : ℕ) → IsAlignmentOf placed one → IsAlignmentOf placed other → one ≡ other
same_alignment placed one other is_one is_other = search rules

-- An alignment that is lost, or none.
pub alignment_lost : (placed : List PlacedPayload) (lost : Option ℕ) → IfSome lost (LosesAlignment placed) →
    (IsNone lost → (bytes : ℕ) → ¬ (LosesAlignment placed bytes)) → (bytes : ℕ) → (lost ≡ Some bytes) ↔ LosesAlignment placed bytes
alignment_lost placed None is without bytes =
    ((λ same. absurd (true≢false (sym (ap is_some same)))), λ loses. absurd (without refl bytes loses))
alignment_lost placed (Some one) is without bytes = search (rules, placed, same_in_some, same_alignment)

-- ---- the payloads that `data-position` gives

pub count_positions : (base end : ℕ) (images : List Image) →
    length (filter (λ payload. payload.has_position) (placed_images base end images))
    ≡ length (filter (λ image. has_position (image_model image)) images)
count_positions base end [] = refl
count_positions base end (image ∷ later) =
    let new = base + up_to 4 end in
    let payload = (image_model image).payload in
    let rest = placed_images base (end_after 4 end payload) later in
    let more = count_positions base (end_after 4 end payload) later in
    let kept = filter (λ image. has_position (image_model image)) later in
    elim (placed_cases image.place payload new) [
      | inl left_out ↦
          ap (λ first. length (filter (λ payload. payload.has_position) (first ++ rest))) left_out.no_payload
          ∙ more
          ∙ ap (λ test. length (if test then image ∷ kept else kept)) (sym left_out.no_position)
      | inr is ↦
          ap (λ first. length (filter (λ payload. payload.has_position) (first ++ rest))) is.one
          ∙ one_more (is_at_position image.place payload) (offsets_of_payload is.old new (is_at_position image.place payload)) image
          (filter (λ payload. payload.has_position) rest) kept more
    ]
  where
    one_more : (test : Bool) (payload : PlacedPayload) (image : Image) (some : List PlacedPayload) (kept : List Image) →
        length some ≡ length kept → length (if test then payload ∷ some else some) ≡ length (if test then image ∷ kept else kept)
    one_more true payload image some kept same = ap (λ n. suc n) same
    one_more false payload image some kept same = same

-- ---- the file

-- Where the images that are read are.
pub read_places : (file : List ℕ) (nodes : Nodes FileNode) (images : List ImageModel) →
    AllZip (IsReadImage file) (siblings nodes) images → places_of_nodes file nodes ≡ map (λ image. image.place) images
read_places file none [] are = refl
read_places file none (image ∷ images) are = absurd are
read_places file (node name own children later) [] are = absurd are
read_places file (node name own children later) (image ∷ images) are = search (rules, read_places file later images are.1)

module _ (content : FitModel) (held : IsHeld content) (images : List Image) (are : map image_model images ≡ content.images) where
  -- Its image nodes.
  abbrev nodes : Nodes FileNode
  nodes = nodes_or_none (image_nodes (root_of content.blob))

  -- It means its tree.
  abbrev is_file : IsFitFile content.blob.file (tree_of content)
  is_file = record {
    root = root_of content.blob;
    blob = held.is_blob;
    images = nodes;
    has_images = some_nodes (image_nodes (root_of content.blob)) held.has_images;
    payloads = read_payloads content.blob.file nodes content.images held.images;
    is_root = refl;
  }

  -- The payloads that count, if a tree with the same payloads has a text of this length in the form External.
  placed : (new : ImageTree) (size after : ℕ) → new.payloads ≡ (tree_of content).payloads →
      length (fit_text External new) ≡ size → after ≡ payloads_end 4 0 (payloads_of images) →
      placed_payloads (places_of_nodes content.blob.file nodes) (tree_of content).payloads (external_places new)
      ≡ placed_images (size - after) 0 images
  placed new size after same long is_after =
      let places : places_of_nodes content.blob.file nodes ≡ places_of_images images =
      read_places content.blob.file nodes content.images held.images ∙ ap (λ images. map (λ image. image.place) images) (sym are) in
      let payloads : (tree_of content).payloads ≡ payloads_of images = ap (λ images. map (λ image. image.payload) images) (sym are) in
      let all : new.payloads ≡ payloads_of images = same ∙ payloads in
      let ends : payloads_end 4 0 new.payloads ≡ payloads_end 4 0 (payloads_of images) = ap (payloads_end 4 0) all in
      let whole = (each_external_text_has_its_length External 4 new refl).is_length in
      let base : length (blob_of External new) ≡ size - after = omega (arith, whole, long, is_after, ends) in
      ap (λ places. placed_payloads places (tree_of content).payloads (external_places new)) places
      ∙ ap (λ payloads. placed_payloads (places_of_images images) payloads (external_places new)) payloads
      ∙ ap (λ payloads. placed_payloads (places_of_images images) (payloads_of images)
      (payload_places 4 (length (blob_of External new)) 0 payloads)) all
      ∙ ap (λ base. placed_payloads (places_of_images images) (payloads_of images)
      (payload_places 4 base 0 (payloads_of images))) base
      ∙ placed_images-same (size - after) 0 images

  -- What is kept of the payloads of images is kept of the file.
  pub kept_of_file : (new : ImageTree) (size after : ℕ) (kept : Kept) → new.payloads ≡ (tree_of content).payloads →
      length (fit_text External new) ≡ size → after ≡ payloads_end 4 0 (payloads_of images) →
      IsKeptOf (placed_images (size - after) 0 images) kept → IsKeptOfFile content.blob.file (tree_of content) new kept
  kept_of_file new size after kept same long is_after is = record {
    is_file = is_file;
    is_kept = subst (λ placed. IsKeptOf placed kept) (sym (placed new size after same long is_after)) is;
  }

-- What follows the blob of a text is no longer than the text.
pub after_within : (form : Form) (tree : ImageTree) → length_after_blob form tree.payloads ≤ length (fit_text form tree)
after_within Embedded tree = omega arith
after_within External tree =
    let whole = (each_external_text_has_its_length External 4 tree refl).is_length in
    omega (arith, whole)
after_within (Aligned align) tree =
    let whole = (each_external_text_has_its_length (Aligned align) (align_bytes align) tree refl).is_length in
    omega (arith, whole)
