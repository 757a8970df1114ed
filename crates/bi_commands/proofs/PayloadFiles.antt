use Rattle.std.proofs.Common.{◌≡◌, ℕ, zero, suc, ◌+◌, ◌≤◌, ◌^◌, Bool, true, false, List, [], ◌∷◌, ◌++◌, length, map, Option, None, Some}
use Rattle.std.proofs.Common.{Result, Ok, Err, IfOk, OnOk, IfErr, Contains, slice_get, bytes_eq, inl, inr, refl, sym, ap, subst, ◌∙◌, arith}
use Rattle.std.proofs.Common.{append_assoc, string_bytes, rules}
use Rattle.std.proofs.lemmas.Slice.Eq.{bytes_eq-Decides}
use Rattle.std.proofs.lemmas.List.{length-append, map-append}
use Rattle.std.specs.List.{AllByRecursion, flat_map}
use Rattle.bi_base.proofs.EqualBytes.{same_bytes}
use Rattle.bi_base.proofs.ListMembers.{Contains-first, Contains-others}
use Rattle.bi_base.specs.declared.fault.Error.{Error}
use Rattle.bi_base.specs.declared.fault.Error.TheVariants.{Refused, OutOfMemory, ReadFailed, WriteFailed}
use Rattle.bi_base.specs.Limits.{Limits}
use Rattle.bi_blob.specs.Tree.{Nodes, none, node, PropertyMap, IsNew, AreDistinct, AreNodes, names}
use Rattle.bi_blob.specs.Lookups.{Sibling, siblings}
use Rattle.bi_fit.specs.Content.{FitModel, ImageModel, IsHeld, payloads_of_models, tree_of}
use Rattle.bi_fit.specs.ImageTree.{ImageTree, ArePropertiesByName, HaveByteNames, IsImageTree, nodes_or_none, image_nodes}
use Rattle.bi_fit.specs.Judgement.{Image, image_named, images_of, images_with}
use Rattle.bi_fit.proofs.FileTrees.{is_image_tree}
use Rattle.bi_fit.proofs.Meanings.{same_in_some}
use Rattle.bi_fit.proofs.TreeShapes.{AreNodes-children_of, bytes-children_of}
use Rattle.bi_legacy.specs.File.{IsLegacyFile}
use Rattle.bi_legacy.specs.Meaning.{LegacyImage}
use Rattle.bi_legacy.proofs.PartOffsets.{length-part_table}
use Rattle.bi_norm.specs.declared.image.BootImage.{BootImage}
use Rattle.bi_norm.specs.Meaning.{Meaning, OfLegacy, OfFit, Means}
use Rattle.bi_norm.specs.Reading.{IsBootImageReadError, IsReadBootImage, meaning_of}
use Rattle.bi_norm.proofs.Comparisons.{opened_means}
use Rattle.bi_norm.proofs.NormalForms.{needs_memory}
use Rattle.bi_common.specs.PayloadBounds.{IsOverPayloadBound}
use Rattle.bi_commands.specs.declared.extract_all.Payload.{Payload}
use Rattle.bi_commands.specs.Extracting.{Chosen, choice_of_image, choice_of_part, choice_of_payload}
use Rattle.bi_commands.specs.ExtractingAll.{PayloadFile, IsSafeFileName, AreSafeFileNames, IsExtractedFile, OfPart, OfImage}
use Rattle.bi_commands.specs.ExtractingAll.{AreAllPayloads, EachPayloadHasItsFile, FileNamesAreSafe, IsExtractAllError}
use Rattle.bi_commands.specs.ExtractingAll.{image_file, image_file_name, image_files, part_file_name, part_files, payload_files}
use Rattle.bi_commands.specs.Payloads.{IsPayloadError, payload_file}
use Rattle.bi_commands.proofs.Choices.{names_of_content}
use Rattle.bi_commands.proofs.FileNames.{names_of_files, safe_part_names, safe_image_name, same_image_file}

-- The files of the payloads of a boot image have safe names. No two names are the same. Each file has the bytes that `extract` returns.

-- ---- parts

-- Some file has this name and these bytes.
abbrev file_of : (name bytes : List ℕ) → PayloadFile
file_of name bytes = record { name = name; bytes = bytes }

-- Each of these parts has its file.
part_has_file : (start index : ℕ) (parts : List (List ℕ)) (bytes : List ℕ) → slice_get parts index ≡ Some bytes →
    slice_get (part_files start parts) index ≡ Some (record { name = part_file_name (start + index); bytes = bytes })
part_has_file start index [] bytes is = absurd cc
part_has_file start zero (part ∷ later) bytes is = search (rules, same_in_some)
part_has_file start (suc index) (part ∷ later) bytes is = search (rules, part_has_file (start + 1) index later bytes is)

-- Each file is that of a part.
parts_extracted : (image : LegacyImage) (start : ℕ) (parts : List (List ℕ)) →
    ((index : ℕ) (bytes : List ℕ) → slice_get parts index ≡ Some bytes → slice_get image.parts (start + index) ≡ Some bytes) →
    AllByRecursion (IsExtractedFile (OfLegacy image)) (part_files start parts)
parts_extracted image start [] there = tt
parts_extracted image start (part ∷ later) there =
    let at : start ≡ start + 0 = omega arith in (
      OfPart start (ap choice_of_part (ap (slice_get image.parts) at ∙ there 0 part refl)) refl,
      parts_extracted image (start + 1) later
          (λ index bytes is. let next : start + 1 + index ≡ start + suc index = omega arith in
          ap (slice_get image.parts) next ∙ there (suc index) bytes is),
    )

-- A file has at most as many parts as 32 bits count.
parts_fit : (file : List ℕ) (image : LegacyImage) → IsLegacyFile file image → 0 + length image.parts ≤ 2 ^ 64
parts_fit file image is = search (rules, length-append, length-part_table)

-- ---- images

-- These are the names of images.
abbrev names_of_images : List Image → List (List ℕ)
names_of_images images = map (λ (image : Image). image.entry.name) images

-- The image with a name is found before others of that name, and after images of other names.
head_found : (image : Image) (later : List Image) → image_named image.entry.name (image ∷ later) ≡ Some image
head_found image later = rw ((bytes_eq-Decides image.entry.name image.entry.name).1 refl) refl

later_found : (head : Image) (images later : List Image) → IsNew head.entry.name (names_of_images images) →
    AllByRecursion (λ (image : Image). image_named image.entry.name later ≡ Some image) images →
    AllByRecursion (λ (image : Image). image_named image.entry.name (head ∷ later) ≡ Some image) images
later_found head [] later new found = tt
later_found head (image ∷ images) later new found = search (rules, same_bytes, later_found head images later new.1 found.1)

-- If the names of images are distinct, each image is found by its name.
each_found : (images : List Image) → AreDistinct (names_of_images images) →
    AllByRecursion (λ (image : Image). image_named image.entry.name images ≡ Some image) images
each_found [] distinct = tt
each_found (image ∷ later) distinct =
    (head_found image later, later_found image later later distinct.0 (each_found later distinct.1))

-- Each file is that of an image.
images_extracted : (tree : ImageTree) (images : List Image) →
    AllByRecursion (λ (image : Image). image_named image.entry.name (images_of tree) ≡ Some image) images →
    AllByRecursion (IsExtractedFile (OfFit tree)) (image_files images)
images_extracted tree [] found = tt
images_extracted tree (image ∷ later) found = by image.payload refl (images_extracted tree later found.1)
  where
    by : (payload : Option (List ℕ)) → image.payload ≡ payload → AllByRecursion (IsExtractedFile (OfFit tree)) (image_files later) →
        AllByRecursion (IsExtractedFile (OfFit tree)) (image_file image.entry.name payload ++ image_files later)
    by None is rest = rest
    by (Some bytes) is rest =
        (OfImage tree refl image.entry.name (ap choice_of_image found.0 ∙ ap choice_of_payload is) refl, rest)

-- No later image has the same name of a file.
new_image : (name : List ℕ) (images : List Image) → IsNew name (names_of_images images) →
    IsNew (image_file_name name) (names_of_files (image_files images))
new_image name [] new = tt
new_image name (image ∷ later) new = search (rules, same_image_file, new_image name later new.1)

-- The files of images have safe names, and no two of them have the same name.
safe_image_names : (images : List Image) → AreDistinct (names_of_images images) →
    AllByRecursion (λ (image : Image). IsSafeFileName (image_file_name image.entry.name)) images →
    AreSafeFileNames (names_of_files (image_files images))
safe_image_names [] distinct safe = record { each = tt; distinct = tt }
safe_image_names (image ∷ later) distinct safe = by image.payload (safe_image_names later distinct.1 safe.1)
  where
    by : (payload : Option (List ℕ)) → AreSafeFileNames (names_of_files (image_files later)) →
        AreSafeFileNames (names_of_files (image_file image.entry.name payload ++ image_files later))
    by None rest = rest
    by (Some bytes) rest = record { each = (safe.0, rest.each); distinct = (new_image image.entry.name later distinct.0, rest.distinct) }

-- If an image is found and has a payload, the payload has its file.
image_has_file : (name bytes : List ℕ) (images : List Image) → choice_of_image (image_named name images) ≡ Chosen bytes →
    Contains (image_files images) (record { name = image_file_name name; bytes = bytes })
image_has_file name bytes [] is = absurd cc
image_has_file name bytes (image ∷ later) is = by (bytes_eq image.entry.name name) refl image.payload refl (image_has_file name bytes later)
  where
    file : PayloadFile
    file = record { name = image_file_name name; bytes = bytes }

    by : (b : Bool) → bytes_eq image.entry.name name ≡ b → (payload : Option (List ℕ)) → image.payload ≡ payload →
        (choice_of_image (image_named name later) ≡ Chosen bytes → Contains (image_files later) file) →
        Contains (image_file image.entry.name payload ++ image_files later) file
    by true same None has rest =
        let chosen : choice_of_payload image.payload ≡ Chosen bytes = rw same at is in
        let none : choice_of_payload None ≡ Chosen bytes = sym (ap choice_of_payload has) ∙ chosen in
        absurd cc
    by true same (Some payload) has rest =
        let chosen : choice_of_payload image.payload ≡ Chosen bytes = rw same at is in
        let both : Chosen payload ≡ Chosen bytes = sym (ap choice_of_payload has) ∙ chosen in
        let same_payload : payload ≡ bytes = cc in
        let name_is : image.entry.name ≡ name = same_bytes image.entry.name name same in
        let first : file_of (image_file_name image.entry.name) payload ≡ file
        = ap (λ name. file_of (image_file_name name) payload) name_is ∙ ap (file_of (image_file_name name)) same_payload in
        subst (λ (first : PayloadFile). Contains (first ∷ image_files later) file) (sym first) (Contains-first file (image_files later))
    by false other None has rest = rest (rw other at is)
    by false other (Some payload) has rest =
        Contains-others (file_of (image_file_name image.entry.name) payload) (image_files later) file (rest (rw other at is))

-- The names of images are new if the names of their nodes are.
new_among : (name : List ℕ) (nodes : Nodes PropertyMap) (payloads : List (Option (List ℕ))) → IsNew name (names nodes) →
    IsNew name (names_of_images (images_with (siblings nodes) payloads))
new_among name none payloads new = tt
new_among name (node first own children later) [] new = tt
new_among name (node first own children later) (payload ∷ payloads) new = (new.0, new_among name later payloads new.1)

-- The names of images are distinct if the names of their nodes are.
distinct_images : (nodes : Nodes PropertyMap) (payloads : List (Option (List ℕ))) → AreNodes ArePropertiesByName nodes →
    AreDistinct (names_of_images (images_with (siblings nodes) payloads))
distinct_images none payloads are = tt
distinct_images (node name own children later) [] are = tt
distinct_images (node name own children later) (payload ∷ payloads) are =
    (new_among name later payloads are.0.is_new, distinct_images later payloads are.2)

-- The name of each image gives a safe name of a file.
safe_images : (nodes : Nodes PropertyMap) (payloads : List (Option (List ℕ))) → AreNodes ArePropertiesByName nodes → HaveByteNames nodes →
    AllByRecursion (λ (image : Image). IsSafeFileName (image_file_name image.entry.name)) (images_with (siblings nodes) payloads)
safe_images none payloads are bytes = tt
safe_images (node name own children later) [] are bytes = tt
safe_images (node name own children later) (payload ∷ payloads) are bytes =
    (safe_image_name name bytes.0 are.0.is_name.no_slash, safe_images later payloads are.2 bytes.2)

-- The names of the image nodes of a tree are names of nodes, and consist of bytes.
image_nodes_are : (tree : ImageTree) → IsImageTree tree →
    AreNodes ArePropertiesByName (nodes_or_none (image_nodes tree.root)) × HaveByteNames (nodes_or_none (image_nodes tree.root))
image_nodes_are tree is = search (rules, AreNodes-children_of, bytes-children_of)

-- ---- boot images

-- The names of the files of what a file means are safe.
pub file_names_are_safe : FileNamesAreSafe
file_names_are_safe limits file (OfLegacy image) means = safe_part_names 0 image.parts (parts_fit file image means.is_file)
file_names_are_safe limits file (OfFit tree) means =
    let are = image_nodes_are tree (is_image_tree file tree means.is_file) in
    safe_image_names (images_of tree) (distinct_images (nodes_or_none (image_nodes tree.root)) tree.payloads are.0)
    (safe_images (nodes_or_none (image_nodes tree.root)) tree.payloads are.0 are.1)

-- Each file has the bytes that `extract` returns.
files_are_extracted : (limits : Limits) (file : List ℕ) (meaning : Meaning) → Means limits file meaning →
    AllByRecursion (IsExtractedFile meaning) (payload_files meaning)
files_are_extracted limits file (OfLegacy image) means =
    parts_extracted image 0 image.parts
    (λ index bytes is. let at : 0 + index ≡ index = omega arith in ap (slice_get image.parts) at ∙ is)
files_are_extracted limits file (OfFit tree) means =
    let are = image_nodes_are tree (is_image_tree file tree means.is_file) in
    images_extracted tree (images_of tree) (each_found (images_of tree)
    (distinct_images (nodes_or_none (image_nodes tree.root)) tree.payloads are.0))

-- This part is chosen.
part_chosen : (found : Option (List ℕ)) (bytes : List ℕ) → choice_of_part found ≡ Chosen bytes → found ≡ Some bytes
part_chosen None bytes is = absurd cc
part_chosen (Some part) bytes is = let same : part ≡ bytes = cc in ap Some same

-- Each payload has its file.
pub each_payload_has_its_file : EachPayloadHasItsFile
each_payload_has_its_file limits file (OfLegacy image) means = search (rules, part_has_file, part_chosen)
each_payload_has_its_file limits file (OfFit tree) means = search (rules, image_has_file)

-- ---- what the calls return

-- An error of reading a file is an error of extracting all its payloads.
pub extract_all_error_of_reading : (limits : Limits) (file : List ℕ) (error : Error) → IsBootImageReadError limits file error →
    IsExtractAllError limits file error
extract_all_error_of_reading limits file (Refused fault) is = inl is
extract_all_error_of_reading limits file OutOfMemory is = is
extract_all_error_of_reading limits file ReadFailed is = is
extract_all_error_of_reading limits file WriteFailed is = is

-- An error of collecting the payloads of what was read is one, too.
pub extract_all_error_of_payloads : {T : Type 0} (limits : Limits) (file : List ℕ) (image : BootImage) (result : Result T Error) →
    IsReadBootImage limits file image → IfErr result (IsPayloadError limits (meaning_of image)) →
    IfErr result (IsExtractAllError limits file)
extract_all_error_of_payloads limits file image (Ok value) opened is = tt
extract_all_error_of_payloads limits file image (Err (Refused fault)) opened is =
    inr (record { meaning = meaning_of image; means = (opened_means limits file image opened).means; holds = is.0 }, is.1)
extract_all_error_of_payloads limits file image (Err OutOfMemory) opened is =
    needs_memory limits file (meaning_of image) (opened_means limits file image opened).means
extract_all_error_of_payloads limits file image (Err ReadFailed) opened is = is
extract_all_error_of_payloads limits file image (Err WriteFailed) opened is = is

-- The files of the payloads of what was read are those of the file.
pub payloads_of_opened : {T : Type 0} (files_of : T → List PayloadFile) (limits : Limits) (file : List ℕ) (image : BootImage)
    (result : Result T Error) → IsReadBootImage limits file image → OnOk result (¬ (IsOverPayloadBound limits (meaning_of image)))
    → IfOk result (λ payloads. files_of payloads ≡ payload_files (meaning_of image)) →
    IfOk result (λ payloads. AreAllPayloads limits file (files_of payloads))
payloads_of_opened files_of limits file image (Err error) opened within is = tt
payloads_of_opened files_of limits file image (Ok payloads) opened within is =
    let meaning : Meaning = meaning_of image in
    let means = opened_means limits file image opened in
    record {
      meaning = meaning;
      means = means;
      within = within;
      are = is;
      safe = subst (λ (files : List PayloadFile). AreSafeFileNames (names_of_files files)) (sym is)
          (file_names_are_safe limits file meaning means.means);
      extracted = subst (AllByRecursion (IsExtractedFile meaning)) (sym is) (files_are_extracted limits file meaning means.means);
    }

-- ---- the payloads so far

-- One more part adds its file.
pub one_more_part : (payloads pushed : List Payload) (payload : Payload) (bytes : List ℕ) (later : List (List ℕ)) (all : List PayloadFile) →
    pushed ≡ payloads ++ payload ∷ [] → string_bytes payload.file_name ≡ part_file_name (length payloads) → payload.bytes.now ≡ bytes →
    map payload_file payloads ++ part_files (length payloads) (bytes ∷ later) ≡ all →
    map payload_file pushed ++ part_files (length pushed) later ≡ all
one_more_part payloads pushed payload bytes later all is name content so_far = search (rules, length-append, map-append, append_assoc)

-- These are the files of images that were read.
abbrev pub files_of_models : List ImageModel → List PayloadFile
files_of_models images = flat_map (λ (image : ImageModel). image_file image.name image.payload) images

-- They are those of the images of nodes with the same names.
files_of_entries : (entries : List (Sibling PropertyMap)) (images : List ImageModel) →
    map (λ (entry : Sibling PropertyMap). entry.name) entries ≡ map (λ (image : ImageModel). image.name) images →
    files_of_models images ≡ image_files (images_with entries (payloads_of_models images))
files_of_entries [] [] same = refl
files_of_entries [] (image ∷ later) same = absurd cc
files_of_entries (entry ∷ entries) [] same = absurd cc
files_of_entries (entry ∷ entries) (image ∷ later) same = search (rules, files_of_entries entries later cc)

-- These are the images of a tree that was read.
pub files_of_content : (content : FitModel) → IsHeld content → files_of_models content.images ≡ payload_files (OfFit (tree_of content))
files_of_content content held =
    files_of_entries (siblings (nodes_or_none (image_nodes (tree_of content).root))) content.images (names_of_content content held)

-- One more image adds its file.
pub one_more_image : (files new : List PayloadFile) (image : ImageModel) (later : List ImageModel) (all : List PayloadFile) →
    new ≡ files ++ image_file image.name image.payload → files ++ files_of_models (image ∷ later) ≡ all →
    new ++ files_of_models later ≡ all
one_more_image files new image later all is so_far = search (rules, append_assoc)
