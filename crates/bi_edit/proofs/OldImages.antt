use Rattle.std.proofs.Common.{◌≡◌, ◌&&◌, ℕ, suc, ◌+◌, ◌-◌, Bool, true, false, List, [], ◌∷◌, ◌++◌, Option, Some, None, bytes_eq, map}
use Rattle.std.proofs.Common.{filter, length}
use Rattle.std.proofs.Common.{option_map, slice_get, is_some, refl, sym, ap, subst, ◌∙◌, arith}
use Rattle.std.specs.Option.{option_and_then}
use Rattle.std.specs.List.{AllZip}
use Rattle.bi_base.specs.Cells.{up_to}
use Rattle.bi_base.specs.Limits.{Limits}
use Rattle.bi_blob.specs.Lookups.{Sibling, node_named, siblings}
use Rattle.bi_blob.specs.Tree.{Nodes, none, node, FileNode}
use Rattle.bi_fdt.specs.Content.{root_of}
use Rattle.bi_fit.specs.declared.form.Form.TheVariants.{External}
use Rattle.bi_fit.specs.declared.image.Image.{Image}
use Rattle.bi_fit.specs.declared.image.Place.{Place}
use Rattle.bi_fit.specs.Content.{FitModel, ImageModel, IsHeld, IsReadImage, image_model, index_from, index_of, place_or_absent, tree_of}
use Rattle.bi_fit.specs.ImageTree.{image_nodes, nodes_or_none}
use Rattle.bi_fit.specs.Judgement.{image_named, images_of, images_with, signature_count}
use Rattle.bi_fit.specs.Judgement.{Image as TreeImage}
use Rattle.bi_fit.specs.Kept.{PlacedPayload, payload_if_placed, placed_payloads}
use Rattle.bi_fit.specs.Reading.{IsReadFit}
use Rattle.bi_fit.specs.Text.{blob_of, end_after, fit_text, payload_places, payloads_end}
use Rattle.bi_fit.proofs.FileNodes.{bare_image, image_siblings}
use Rattle.bi_fit.proofs.NormalTrees.{some_nodes}
use Rattle.bi_fit.proofs.ReadBlobs.{read_payloads}
use Rattle.bi_fit.proofs.TextLaws.{each_external_text_has_its_length}
use Rattle.bi_edit.specs.declared.edit_notes.EditNotes.{EditNotes}
use Rattle.bi_edit.specs.declared.form_choice.FormChoice.{FormChoice}
use Rattle.bi_edit.specs.EditNotes.{AreTreeNotes, SaysOfPayloads, comes_inside, is_not_empty, is_fixed, is_outside, loses_position}
use Rattle.bi_edit.specs.EditNotes.{old_payload, old_place, place_of_node, still_placed}
use Rattle.bi_edit.specs.OldImages.{comes_inside_from, loses_position_from, model_named, payload_or_none, still_placed_from}

-- The images of a file, by their names, are those of its tree.

-- ---- by an index

record IsFoundAt (name : List ℕ) (images : List ImageModel) (base index : ℕ) : Type 0 where
  at : ℕ
  is : index ≡ base + at
  same : slice_get images at ≡ model_named name images

found_from : (name : List ℕ) (images : List ImageModel) (base index : ℕ) → index_from base name images ≡ Some index →
    IsFoundAt name images base index
found_from name [] base index is = absurd cc
found_from name (image ∷ later) base index is = by (bytes_eq image.name name) refl is (found_from name later (base + 1) index) where
  by : (b : Bool) → bytes_eq image.name name ≡ b → index_from base name (image ∷ later) ≡ Some index →
      (index_from (base + 1) name later ≡ Some index → IsFoundAt name later (base + 1) index) →
      IsFoundAt name (image ∷ later) base index
  by true one is rest =
      let here : Some base ≡ Some index = rw one at is in
      let same : base ≡ index = cc in
      record { at = 0; is = omega (arith, same); same = rw one refl }
  by false one is rest =
      let after = rest (rw one at is) in
      record { at = suc after.at; is = omega (arith, after.is); same = rw one after.same }

none_from : (name : List ℕ) (images : List ImageModel) (base : ℕ) → index_from base name images ≡ None → model_named name images ≡ None
none_from name [] base is = refl
none_from name (image ∷ later) base is = by (bytes_eq image.name name) refl is (none_from name later (base + 1)) where
  by : (b : Bool) → bytes_eq image.name name ≡ b → index_from base name (image ∷ later) ≡ None →
      (index_from (base + 1) name later ≡ None → model_named name later ≡ None) → model_named name (image ∷ later) ≡ None
  by true one is rest = absurd (let here : Some base ≡ None = rw one at is in cc)
  by false one is rest = rw one (rest (rw one at is))

pub image_found : (name : List ℕ) (images : List ImageModel) (index : ℕ) → index_of name images ≡ Some index →
    slice_get images index ≡ model_named name images
image_found name images index is =
    let found = found_from name images 0 index is in
    let same : index ≡ found.at = omega (arith, found.is) in
    ap (slice_get images) same ∙ found.same

pub no_image_found : (name : List ℕ) (images : List ImageModel) → index_of name images ≡ None → model_named name images ≡ None
no_image_found name images is = none_from name images 0 is

-- ---- in the file and in its tree

place_same : (file : List ℕ) (nodes : Nodes FileNode) (images : List ImageModel) → AllZip (IsReadImage file) (siblings nodes) images →
    (name : List ℕ) → place_of_node file (node_named nodes name) ≡ place_or_absent (model_named name images)
place_same file none [] read name = refl
place_same file none (image ∷ images) read name = absurd read
place_same file (node first own children later) [] read name = absurd read
place_same file (node first own children later) (image ∷ images) read name =
    by (bytes_eq first name) refl (place_same file later images read.1 name)
  where
    by : (b : Bool) → bytes_eq first name ≡ b →
        place_of_node file (node_named later name) ≡ place_or_absent (model_named name images) →
        place_of_node file (node_named (node first own children later) name) ≡ place_or_absent (model_named name (image ∷ images))
    by true one rest =
        let same : bytes_eq image.name name ≡ true = ap (λ n. bytes_eq n name) read.0.name ∙ one in
        rw one (rw same (sym read.0.place))
    by false one rest =
        let same : bytes_eq image.name name ≡ false = ap (λ n. bytes_eq n name) read.0.name ∙ one in
        rw one (rw same rest)

payload_same : (file : List ℕ) (entries : List (Sibling FileNode)) (images : List ImageModel) → AllZip (IsReadImage file) entries images →
    (name : List ℕ) →
    option_and_then (λ before. before.payload)
    (image_named name (images_with (map bare_image entries) (map (λ image. image.payload) images)))
    ≡ payload_or_none (model_named name images)
payload_same file [] [] read name = refl
payload_same file [] (image ∷ images) read name = absurd read
payload_same file (entry ∷ entries) [] read name = absurd read
payload_same file (entry ∷ entries) (image ∷ images) read name =
    by (bytes_eq entry.name name) refl (payload_same file entries images read.1 name)
  where
    by : (b : Bool) → bytes_eq entry.name name ≡ b →
        option_and_then (λ before. before.payload)
        (image_named name (images_with (map bare_image entries) (map (λ image. image.payload) images)))
        ≡ payload_or_none (model_named name images) →
        option_and_then (λ before. before.payload)
        (image_named name (images_with (map bare_image (entry ∷ entries)) (map (λ image. image.payload) (image ∷ images))))
        ≡ payload_or_none (model_named name (image ∷ images))
    by true one rest =
        let same : bytes_eq image.name name ≡ true = ap (λ n. bytes_eq n name) read.0.name ∙ one in
        rw one (rw same refl)
    by false one rest =
        let same : bytes_eq image.name name ≡ false = ap (λ n. bytes_eq n name) read.0.name ∙ one in
        rw one (rw same rest)

-- ---- the images of an old tree

module _ (content : FitModel) (held : IsHeld content) where
  abbrev pub old_nodes : Nodes FileNode
  old_nodes = nodes_or_none (image_nodes (root_of content.blob))

  old_place_same : (image : TreeImage) (name : List ℕ) → image.entry.name ≡ name →
      old_place content.blob.file old_nodes image ≡ place_or_absent (model_named name content.images)
  old_place_same image name is =
      ap (λ name. place_of_node content.blob.file (node_named old_nodes name)) is
      ∙ place_same content.blob.file old_nodes content.images held.images name

  old_payload_same : (image : TreeImage) (name : List ℕ) → image.entry.name ≡ name →
      old_payload (tree_of content) image ≡ payload_or_none (model_named name content.images)
  old_payload_same image name is =
      ap (λ name. option_and_then (λ before. before.payload) (image_named name (images_of (tree_of content)))) is
      ∙ ap (λ entries. option_and_then (λ before. before.payload)
      (image_named name (images_with entries (map (λ image. image.payload) content.images)))) (image_siblings content)
      ∙ payload_same content.blob.file (siblings old_nodes) content.images held.images name

  comes_same : (image : TreeImage) (model : ImageModel) → image.entry.name ≡ model.name → image.payload ≡ model.payload →
      comes_inside content.blob.file old_nodes (tree_of content) image ≡ comes_inside_from content.images model
  comes_same image model is same =
      ap (λ place. is_outside place && (is_not_empty (old_payload (tree_of content) image) && is_not_empty image.payload))
      (old_place_same image model.name is)
      ∙ ap (λ payload. is_outside (place_or_absent (model_named model.name content.images))
      && (is_not_empty payload && is_not_empty image.payload)) (old_payload_same image model.name is)
      ∙ ap (λ payload. is_outside (place_or_absent (model_named model.name content.images))
      && (is_not_empty (payload_or_none (model_named model.name content.images)) && is_not_empty payload)) same

  loses_same : (image : TreeImage) (model : ImageModel) → image.entry.name ≡ model.name → image.payload ≡ model.payload →
      loses_position content.blob.file old_nodes (tree_of content) image ≡ loses_position_from content.images model
  loses_same image model is same =
      ap (λ place. is_fixed place && (is_not_empty (old_payload (tree_of content) image) && is_some image.payload))
      (old_place_same image model.name is)
      ∙ ap (λ payload. is_fixed (place_or_absent (model_named model.name content.images))
      && (is_not_empty payload && is_some image.payload)) (old_payload_same image model.name is)
      ∙ ap (λ payload. is_fixed (place_or_absent (model_named model.name content.images))
      && (is_not_empty (payload_or_none (model_named model.name content.images)) && is_some payload)) same

  -- How many images of a new tree pass a test.
  count_same : (test : TreeImage → Bool) (model_test : ImageModel → Bool) →
      ((image : TreeImage) (model : ImageModel) → image.entry.name ≡ model.name → image.payload ≡ model.payload →
      test image ≡ model_test model) → (file : List ℕ) (entries : List (Sibling FileNode)) (images : List Image) →
      AllZip (IsReadImage file) entries (map image_model images) →
      length (filter test (images_with (map bare_image entries) (map (λ image. image.payload) (map image_model images))))
      ≡ length (filter (λ image. model_test (image_model image)) images)
  count_same test model_test agree file [] [] read = refl
  count_same test model_test agree file [] (image ∷ images) read = absurd read
  count_same test model_test agree file (entry ∷ entries) [] read = absurd read
  count_same test model_test agree file (entry ∷ entries) (image ∷ images) read =
      by (model_test (image_model image)) refl (count_same test model_test agree file entries images read.1)
    where
      by : (b : Bool) → model_test (image_model image) ≡ b →
          length (filter test (images_with (map bare_image entries) (map (λ image. image.payload) (map image_model images))))
          ≡ length (filter (λ image. model_test (image_model image)) images) →
          length (filter test (images_with (map bare_image (entry ∷ entries))
          (map (λ image. image.payload) (map image_model (image ∷ images)))))
          ≡ length (filter (λ image. model_test (image_model image)) (image ∷ images))
      by true one rest =
          let same : test (record { entry = bare_image entry; payload = (image_model image).payload }) ≡ true =
          agree (record { entry = bare_image entry; payload = (image_model image).payload }) (image_model image) (sym read.0.name) refl
          ∙ one in
          rw one (rw same (ap (λ n. suc n) rest))
      by false one rest =
          let same : test (record { entry = bare_image entry; payload = (image_model image).payload }) ≡ false =
          agree (record { entry = bare_image entry; payload = (image_model image).payload }) (image_model image) (sym read.0.name) refl
          ∙ one in
          rw one (rw same rest)

  -- The payloads that are still there, in the order of a new tree.
  one_more : (given : Option (List ℕ)) (places : List Place) (olds later : List (Option (List ℕ))) (place : Place)
      (old : Option (List ℕ)) (base end : ℕ) (rest : List PlacedPayload) →
      placed_payloads places olds (payload_places 4 base (end_after 4 end given) later) ≡ rest →
      placed_payloads (place ∷ places) (old ∷ olds) (payload_places 4 base end (given ∷ later))
      ≡ payload_if_placed place old (option_map (λ payload. base + up_to 4 end) given) ++ rest
  one_more None places olds later place old base end rest same = ap (λ rest. payload_if_placed place old None ++ rest) same
  one_more (Some payload) places olds later place old base end rest same =
      ap (λ rest. payload_if_placed place old (Some (base + up_to 4 end)) ++ rest) same

  still_same : (file : List ℕ) (entries : List (Sibling FileNode)) (images : List Image) (base end : ℕ) →
      AllZip (IsReadImage file) entries (map image_model images) →
      placed_payloads
      (map (old_place content.blob.file old_nodes)
      (images_with (map bare_image entries) (map (λ image. image.payload) (map image_model images))))
      (map (old_payload (tree_of content)) (images_with (map bare_image entries) (map (λ image. image.payload) (map image_model images))))
      (payload_places 4 base end (map (λ image. image.payload) (map image_model images)))
      ≡ still_placed_from content.images base end images
  still_same file [] [] base end read = refl
  still_same file [] (image ∷ images) base end read = absurd read
  still_same file (entry ∷ entries) [] base end read = absurd read
  still_same file (entry ∷ entries) (image ∷ images) base end read =
      let first : TreeImage = record { entry = bare_image entry; payload = (image_model image).payload } in
      let new = option_map (λ payload. base + up_to 4 end) (image_model image).payload in
      let before = model_named image.name.now content.images in
      let rest = still_placed_from content.images base (end_after 4 end (image_model image).payload) images in
      one_more (image_model image).payload
      (map (old_place content.blob.file old_nodes)
      (images_with (map bare_image entries) (map (λ image. image.payload) (map image_model images))))
      (map (old_payload (tree_of content)) (images_with (map bare_image entries) (map (λ image. image.payload) (map image_model images))))
      (map (λ image. image.payload) (map image_model images)) (old_place content.blob.file old_nodes first)
      (old_payload (tree_of content) first) base end rest
      (still_same file entries images base (end_after 4 end (image_model image).payload) read.1)
      ∙ ap (λ place. payload_if_placed place (old_payload (tree_of content) first) new ++ rest)
      (old_place_same first image.name.now (sym read.0.name))
      ∙ ap (λ payload. payload_if_placed (place_or_absent before) payload new ++ rest)
      (old_payload_same first image.name.now (sym read.0.name))

  -- What is counted of a new tree, which has these images.
  module _ (new : FitModel) (new_held : IsHeld new) (images : List Image) (are : map image_model images ≡ new.images) where
    images_same : images_of (tree_of new)
        ≡ images_with (map bare_image (siblings (nodes_or_none (image_nodes (root_of new.blob)))))
        (map (λ image. image.payload) (map image_model images))
    images_same =
        ap (λ entries. images_with entries (map (λ image. image.payload) new.images)) (image_siblings new)
        ∙ ap (λ models. images_with (map bare_image (siblings (nodes_or_none (image_nodes (root_of new.blob)))))
        (map (λ image. image.payload) models)) (sym are)

    pub inside_same : length (filter (comes_inside content.blob.file old_nodes (tree_of content)) (images_of (tree_of new)))
        ≡ length (filter (λ image. comes_inside_from content.images (image_model image)) images)
    inside_same =
        ap (λ all. length (filter (comes_inside content.blob.file old_nodes (tree_of content)) all)) images_same
        ∙ count_same (comes_inside content.blob.file old_nodes (tree_of content)) (comes_inside_from content.images) comes_same
        new.blob.file (siblings (nodes_or_none (image_nodes (root_of new.blob)))) images
        (subst (AllZip (IsReadImage new.blob.file) (siblings (nodes_or_none (image_nodes (root_of new.blob))))) (sym are) new_held.images)

    pub positions_same : length (filter (loses_position content.blob.file old_nodes (tree_of content)) (images_of (tree_of new)))
        ≡ length (filter (λ image. loses_position_from content.images (image_model image)) images)
    positions_same =
        ap (λ all. length (filter (loses_position content.blob.file old_nodes (tree_of content)) all)) images_same
        ∙ count_same (loses_position content.blob.file old_nodes (tree_of content)) (loses_position_from content.images) loses_same
        new.blob.file (siblings (nodes_or_none (image_nodes (root_of new.blob)))) images
        (subst (AllZip (IsReadImage new.blob.file) (siblings (nodes_or_none (image_nodes (root_of new.blob))))) (sym are) new_held.images)

    -- The payloads that are still there, if the blob of the text has `base` bytes.
    pub placed_same : (base : ℕ) →
        placed_payloads (map (old_place content.blob.file old_nodes) (images_of (tree_of new)))
        (map (old_payload (tree_of content)) (images_of (tree_of new))) (payload_places 4 base 0 (tree_of new).payloads)
        ≡ still_placed_from content.images base 0 images
    placed_same base =
        ap (λ all. placed_payloads (map (old_place content.blob.file old_nodes) all) (map (old_payload (tree_of content)) all)
        (payload_places 4 base 0 (tree_of new).payloads)) images_same
        ∙ ap (λ models. placed_payloads
        (map (old_place content.blob.file old_nodes)
        (images_with (map bare_image (siblings (nodes_or_none (image_nodes (root_of new.blob)))))
        (map (λ image. image.payload) (map image_model images))))
        (map (old_payload (tree_of content))
        (images_with (map bare_image (siblings (nodes_or_none (image_nodes (root_of new.blob)))))
        (map (λ image. image.payload) (map image_model images))))
        (payload_places 4 base 0 (map (λ image. image.payload) models))) (sym are)
        ∙ still_same new.blob.file (siblings (nodes_or_none (image_nodes (root_of new.blob)))) images base 0
        (subst (AllZip (IsReadImage new.blob.file) (siblings (nodes_or_none (image_nodes (root_of new.blob))))) (sym are) new_held.images)

    -- Those of the text in the form External.
    pub external_same : (size : ℕ) → length (fit_text External (tree_of new)) ≡ size →
        still_placed content.blob.file old_nodes (tree_of content) (tree_of new)
        ≡ still_placed_from content.images (size - payloads_end 4 0 (tree_of new).payloads) 0 images
    external_same size long =
        let whole = (each_external_text_has_its_length External 4 (tree_of new) refl).is_length in
        let base : length (blob_of External (tree_of new)) ≡ size - payloads_end 4 0 (tree_of new).payloads =
        omega (arith, whole, long) in
        ap (λ base. placed_payloads (map (old_place content.blob.file old_nodes) (images_of (tree_of new)))
        (map (old_payload (tree_of content)) (images_of (tree_of new))) (payload_places 4 base 0 (tree_of new).payloads)) base
        ∙ placed_same (size - payloads_end 4 0 (tree_of new).payloads)

-- What is said of the payloads of a file that was read.
pub tree_notes : (chosen : FormChoice) (limits : Limits) (file : List ℕ) (content new : FitModel) (read : IsReadFit limits file content)
    (notes : EditNotes) → notes.kept.signatures ≡ signature_count (tree_of new) →
    SaysOfPayloads chosen content.blob.file (old_nodes content read.held) (tree_of content) (tree_of new) notes →
    AreTreeNotes chosen file (tree_of content) (tree_of new) notes
tree_notes chosen limits file content new read notes count says =
    subst (λ file. AreTreeNotes chosen file (tree_of content) (tree_of new) notes) read.is_file (record {
      is_file = record {
        root = root_of content.blob;
        blob = read.held.is_blob;
        images = nodes_or_none (image_nodes (root_of content.blob));
        has_images = some_nodes (image_nodes (root_of content.blob)) read.held.has_images;
        payloads = read_payloads content.blob.file (nodes_or_none (image_nodes (root_of content.blob))) content.images
            read.held.images;
        is_root = refl;
      };
      signatures = count;
      payloads = says;
    })
