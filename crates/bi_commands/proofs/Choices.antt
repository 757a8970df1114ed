use Rattle.std.proofs.Common.{◌≡◌, ℕ, ◌+◌, Bool, true, false, List, [], ◌∷◌, map, Option, Some, None, Bor, IfOk, IfErr, suc, bytes_eq}
use Rattle.std.proofs.Common.{slice_get, refl, sym, ap, ◌∙◌, rules}
use Rattle.std.specs.Option.{option_map, option_and_then, ok_or}
use Rattle.std.specs.List.{AllZip}
use Rattle.std.specs.FinMap.{from_entries}
use Rattle.bi_blob.specs.Tree.{Nodes, none, node, FileNode, PropertyMap, names, with_each, properties_of}
use Rattle.bi_blob.specs.Lookups.{Sibling, siblings}
use Rattle.bi_fit.specs.Content.{FitModel, ImageModel, IsReadImage, IsHeld, index_from, index_of, tree_of}
use Rattle.bi_fit.specs.ImageTree.{children_of, with_children_of, without_payloads, nodes_or_none, image_nodes}
use Rattle.bi_fit.specs.Judgement.{images_with, image_named}
use Rattle.bi_fit.specs.Names.{images_name}
use Rattle.bi_commands.specs.declared.extract.ExtractError.TheVariants.{NoPayload}
use Rattle.bi_commands.specs.Extracting.{Choice, NoSuchImage, Chosen, IsReason, choice_of_image, choice_of_payload, choice_by_name}
use Rattle.bi_blob.proofs.Blobs.Lookups.{names-with_each, names-siblings}
use Rattle.bi_fit.proofs.TreeShapes.{names-without_payloads}

-- The name of an image chooses what its index does: the payload of this image, or that there is none.

-- The index of an image is one more where the indices begin at one more.
index_from-next : (index : ℕ) (name : List ℕ) (images : List ImageModel) →
    index_from (index + 1) name images ≡ option_map suc (index_from index name images)
index_from-next index name [] = refl
index_from-next index name (image ∷ later) = search (rules, index_from-next (index + 1) name later)

-- What an index chooses of the images that were read, where an image has been found.
abbrev pub choice_at : List ImageModel → Option ℕ → Choice
choice_at images None = NoSuchImage
choice_at images (Some index) = choice_of_payload (option_and_then (λ image. image.payload) (slice_get images index))

-- An image before the others changes the index alone.
choice_at-next : (image : ImageModel) (later : List ImageModel) (found : Option ℕ) →
    choice_at (image ∷ later) (option_map suc found) ≡ choice_at later found
choice_at-next image later None = refl
choice_at-next image later (Some index) = refl

-- Nodes and images of the same names are found by the same names.
found_by_name : (name : List ℕ) (entries : List (Sibling PropertyMap)) (images : List ImageModel) →
    map (λ (entry : Sibling PropertyMap). entry.name) entries ≡ map (λ (image : ImageModel). image.name) images
    → choice_of_image (image_named name (images_with entries (map (λ (image : ImageModel). image.payload) images)))
    ≡ choice_at images (index_of name images)
found_by_name name [] [] same = refl
found_by_name name [] (image ∷ later) same = absurd cc
found_by_name name (entry ∷ entries) [] same = absurd cc
found_by_name name (entry ∷ entries) (image ∷ later) same =
    let same_name : entry.name ≡ image.name = cc in
    by (bytes_eq image.name name) refl (ap (λ other. bytes_eq other name) same_name) (found_by_name name entries later cc)
  where
    by : (b : Bool) → bytes_eq image.name name ≡ b → bytes_eq entry.name name ≡ bytes_eq image.name name
        → choice_of_image (image_named name (images_with entries (map (λ (image : ImageModel). image.payload) later))) ≡
        choice_at later (index_of name later)
        → choice_of_image (image_named name (images_with (entry ∷ entries) (map (λ (image : ImageModel). image.payload) (image ∷ later)))) ≡
        choice_at (image ∷ later) (index_of name (image ∷ later))
    by true is same rest = rw (same, is) refl
    by false is same rest = rw (
      same,
      is,
    ) (rest ∙ sym (ap (choice_at (image ∷ later)) (index_from-next 0 name later) ∙ choice_at-next image later (index_of name later)))

-- The nodes of an image tree, by those of a file.
abbrev pub meant : Nodes FileNode → Nodes PropertyMap
meant nodes = with_each from_entries (with_each properties_of nodes)

-- What the image nodes of a file are named, those that it means are.
names_meant : (nodes : Nodes FileNode) →
    names (nodes_or_none (children_of images_name (with_children_of images_name without_payloads (meant nodes))))
    ≡ names (nodes_or_none (children_of images_name nodes))
names_meant none = refl
names_meant (node name own children later) = search (rules, names-without_payloads, names-with_each, names_meant later)

-- Images that were read from nodes have their names.
names_read : (file : List ℕ) (entries : List (Sibling FileNode)) (images : List ImageModel) → AllZip (IsReadImage file) entries images →
    map (λ (entry : Sibling FileNode). entry.name) entries ≡ map (λ (image : ImageModel). image.name) images
names_read file [] [] read = refl
names_read file [] (image ∷ later) read = absurd read
names_read file (entry ∷ entries) [] read = absurd read
names_read file (entry ∷ entries) (image ∷ later) read = search (rules, names_read file entries later read.1)

-- The image nodes of a tree have the names of the images that were read.
pub names_of_content : (content : FitModel) → IsHeld content →
    map (λ (entry : Sibling PropertyMap). entry.name) (siblings (nodes_or_none (image_nodes (tree_of content).root)))
    ≡ map (λ (image : ImageModel). image.name) content.images
names_of_content content held = search (rules, names-siblings, names_meant, names_read)

-- What the name of an image chooses is what its index does.
pub chosen_by_name : (content : FitModel) (name : List ℕ) → IsHeld content →
    choice_by_name (tree_of content) name ≡ choice_at content.images (index_of name content.images)
chosen_by_name content name held =
    found_by_name name (siblings (nodes_or_none (image_nodes (tree_of content).root))) content.images (names_of_content content held)

-- The payload of the image that was found is chosen.
pub payload_chosen : (content : FitModel) (name : List ℕ) (index : ℕ) (payload : Option (Bor (List ℕ))) → IsHeld content →
    Some index ≡ index_of name content.images
    → option_map (λ (payload : Bor (List ℕ)). payload.now) payload
    ≡ option_and_then (λ (image : ImageModel). image.payload) (slice_get content.images index)
    → IfOk (ok_or payload NoPayload) (λ bytes. choice_by_name (tree_of content) name ≡ Chosen bytes.now)
payload_chosen content name index None held found is = tt
payload_chosen content name index (Some bytes) held found is =
    chosen_by_name content name held ∙ ap (choice_at content.images) (sym found) ∙ ap choice_of_payload (sym is)

-- Or it has none.
pub payload_missing : (content : FitModel) (name : List ℕ) (index : ℕ) (payload : Option (Bor (List ℕ))) → IsHeld content →
    Some index ≡ index_of name content.images
    → option_map (λ (payload : Bor (List ℕ)). payload.now) payload
    ≡ option_and_then (λ (image : ImageModel). image.payload) (slice_get content.images index)
    → IfErr (ok_or payload NoPayload) (λ error. IsReason error (choice_by_name (tree_of content) name))
payload_missing content name index (Some bytes) held found is = tt
payload_missing content name index None held found is =
    chosen_by_name content name held ∙ ap (choice_at content.images) (sym found) ∙ ap choice_of_payload (sym is)
