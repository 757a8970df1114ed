use Rattle.std.proofs.Common.{◌≡◌, ℕ, ◌+◌, suc, List, [], ◌∷◌, ◌++◌, Bool, true, false, not, ◌==◌, length, map, filter, Option, Some, None}
use Rattle.std.proofs.Common.{Bor, slice_get, bytes_eq}
use Rattle.std.proofs.Common.{refl, sym, ap, ◌∙◌, arith, append-nil, option_and_then}
use Rattle.std.specs.Prelude.{◌&&◌}
use Rattle.std.specs.List.{AllZip}
use Rattle.std.specs.Option.{option_map, is_some}
use Rattle.std.proofs.lemmas.Bool.Decides.{nat_tests}
use Rattle.std.proofs.lemmas.Option.{same_Some}
use Rattle.bi_blob.specs.Layout.{is_among}
use Rattle.bi_blob.specs.Lookups.{Sibling, siblings, node_named, value_named}
use Rattle.bi_blob.specs.Tree.{Nodes, none, node, FileNode, PropertyMap, names, properties_of}
use Rattle.bi_fit.specs.Content.{FitModel, ImageModel, IsHeld, IsReadImage, tree_of, index_from, index_of}
use Rattle.bi_fit.specs.HashNodes.{file_images}
use Rattle.bi_fit.specs.ImageTree.{children_of, nodes_or_none, without_payloads}
use Rattle.bi_fit.specs.Names.{is_hash_name, is_signature_name, value_name}
use Rattle.bi_fit.specs.NormalNodes.{nodes_by_name}
use Rattle.bi_fit.proofs.FileNodes.{get-by_name, names-by_name, image_nodes_named}
use Rattle.bi_fdt.specs.Content.{root_of}
use Rattle.bi_coverage.specs.IndexedFits.{covered_by_images}
use Rattle.bi_coverage.specs.Signatures.{has_bytes, images_in, is_signed, covered_names, covered_below, cipher_name}
use Rattle.bi_coverage.specs.Signatures.{hashed_nodes_name, names_of_value, recorded_paths}
use Rattle.bi_coverage.specs.Values.{meaning_of_sibling}

-- What is read from the nodes of a file follows from what the file means.

-- Whether a node is signed.
pub signed_is : (sibling : Sibling FileNode) (value : Option (List ℕ)) → value ≡ value_named (properties_of sibling.own) value_name →
    (is_signature_name sibling.name && has_bytes value) ≡ is_signed (meaning_of_sibling sibling)
signed_is sibling value is =
    ap (λ value. is_signature_name sibling.name && has_bytes value) (is ∙ sym (get-by_name (properties_of sibling.own) value_name))

-- Whether bytes are empty.
pub has_some : (value : List ℕ) → not (length value == 0) ≡ has_bytes (Some value)
has_some [] = refl
has_some (byte ∷ later) = grind (arith, nat_tests)

-- The names of nodes are those of the nodes with their later siblings.
pub names_of_siblings : {Own : Type 0} (nodes : Nodes Own) → names nodes ≡ map (λ sibling. sibling.name) (siblings nodes)
names_of_siblings none = refl
names_of_siblings (node name own children later) = ap (λ l. name ∷ l) (names_of_siblings later)

-- A node has a name if and only if the name is among those of the nodes.
pub named_among : {Own : Type 0} (nodes : Nodes Own) (name : List ℕ) → is_some (node_named nodes name) ≡ is_among name (names nodes)
named_among none name = refl
named_among (node first own children later) name = by (bytes_eq first name) refl (named_among later name)
  where
    by : (b : Bool) → bytes_eq first name ≡ b → is_some (node_named later name) ≡ is_among name (names later) →
        is_some (node_named (node first own children later) name) ≡ is_among name (names (node first own children later))
    by true is rest = rw is refl
    by false is rest = rw is rest

-- The names of nodes with their properties by name are the same.
pub names_by_name : (nodes : Nodes FileNode) → names (nodes_by_name nodes) ≡ names nodes
names_by_name nodes = names-by_name nodes ∙ sym (names_of_siblings nodes)

-- So are those of image nodes.
names_without : (nodes : Nodes FileNode) → names (without_payloads (nodes_by_name nodes)) ≡ names nodes
names_without none = refl
names_without (node name own children later) = ap (λ l. name ∷ l) (names_without later)

-- And those of their children.
children_without : (nodes : Nodes FileNode) (name : List ℕ) →
    names (nodes_or_none (children_of name (without_payloads (nodes_by_name nodes)))) ≡ names (nodes_or_none (children_of name nodes))
children_without none name = refl
children_without (node first own children later) name = by (bytes_eq first name) refl (children_without later name)
  where
    by : (b : Bool) → bytes_eq first name ≡ b →
        names (nodes_or_none (children_of name (without_payloads (nodes_by_name later)))) ≡ names (nodes_or_none (children_of name later)) →
        names (nodes_or_none (children_of name (without_payloads (nodes_by_name (node first own children later)))))
        ≡ names (nodes_or_none (children_of name (node first own children later)))
    by true is rest = rw is (names_by_name children)
    by false is rest = rw is rest

-- The image nodes of the tree.
images_are : (content : FitModel) → images_in (tree_of content) ≡ without_payloads (nodes_by_name (file_images content.blob))
images_are content = image_nodes_named (root_of content.blob).children

-- An image is found by its name if and only if it is there.
index_among : (file name : List ℕ) (base : ℕ) (nodes : Nodes FileNode) (images : List ImageModel) →
    AllZip (IsReadImage file) (siblings nodes) images → is_some (index_from base name images) ≡ is_among name (names nodes)
index_among file name base none [] read = refl
index_among file name base none (image ∷ images) read = absurd read
index_among file name base (node first own children later) [] read = absurd read
index_among file name base (node first own children later) (image ∷ images) read =
    by (bytes_eq first name) refl (index_among file name (base + 1) later images read.1)
  where
    by : (b : Bool) → bytes_eq first name ≡ b → is_some (index_from (base + 1) name images) ≡ is_among name (names later) →
        is_some (index_from base name (image ∷ images)) ≡ is_among name (names (node first own children later))
    by true is rest =
        let same : bytes_eq image.name name ≡ true = ap (λ n. bytes_eq n name) read.0.name ∙ is in rw (same, is) refl
    by false is rest =
        let same : bytes_eq image.name name ≡ false = ap (λ n. bytes_eq n name) read.0.name ∙ is in rw (same, is) rest

pub image_among : (content : FitModel) → IsHeld content → (name : List ℕ) →
    is_some (index_of name content.images) ≡ is_among name (names (images_in (tree_of content)))
image_among content held name =
    index_among content.blob.file name 0 (file_images content.blob) content.images held.images
    ∙ ap (is_among name) (sym (ap names (images_are content) ∙ names_without (file_images content.blob)))

-- The children that an image must have covered, by its index.
covered_from : (file name : List ℕ) (base : ℕ) (nodes : Nodes FileNode) (images : List ImageModel) (index : ℕ) →
    AllZip (IsReadImage file) (siblings nodes) images → index_from base name images ≡ Some index →
    (k : ℕ) × (index ≡ base + k)
    × (slice_get (map (λ image. covered_names (names image.children)) (siblings nodes)) k
    ≡ Some (covered_names (names (nodes_or_none (children_of name nodes)))))
covered_from file name base none [] index read is = absurd cc
covered_from file name base none (image ∷ images) index read is = absurd read
covered_from file name base (node first own children later) [] index read is = absurd read
covered_from file name base (node first own children later) (image ∷ images) index read is =
    by (bytes_eq first name) refl is (λ is. covered_from file name (base + 1) later images index read.1 is)
  where
    Found : ℕ → Nodes FileNode → Type 0
    Found base nodes =
        (k : ℕ) × (index ≡ base + k)
        × (slice_get (map (λ image. covered_names (names image.children)) (siblings nodes)) k
        ≡ Some (covered_names (names (nodes_or_none (children_of name nodes)))))

    by : (b : Bool) → bytes_eq first name ≡ b → index_from base name (image ∷ images) ≡ Some index →
        (index_from (base + 1) name images ≡ Some index → Found (base + 1) later) → Found base (node first own children later)
    by true same is rest =
        let named : bytes_eq image.name name ≡ true = ap (λ n. bytes_eq n name) read.0.name ∙ same in
        let here : Some base ≡ Some index = rw named at is in
        let at : base ≡ index = same_Some base index here in
        (0, omega arith, rw same refl)
    by false same is rest =
        let named : bytes_eq image.name name ≡ false = ap (λ n. bytes_eq n name) read.0.name ∙ same in
        let found = rest (rw named at is) in
        let at : index ≡ base + 1 + found.0 = found.1 in
        (suc found.0, omega arith, rw same found.2)

pub covered_at : (content : FitModel) → IsHeld content → (name : List ℕ) (index : ℕ) → index_of name content.images ≡ Some index →
    slice_get (covered_by_images content) index ≡ Some (covered_below (tree_of content) name)
covered_at content held name index is =
    let found = covered_from content.blob.file name 0 (file_images content.blob) content.images index held.images is in
    let at : index ≡ found.0 = omega (arith, found.1) in
    ap (slice_get (covered_by_images content)) at
    ∙ found.2
    ∙ ap (λ names. Some (covered_names names))
    (sym (ap (λ nodes. names (nodes_or_none (children_of name nodes))) (images_are content)
    ∙ children_without (file_images content.blob) name))

-- None are covered where no image has the name.
pub covered_nothing : (content : FitModel) → IsHeld content → (name : List ℕ) → index_of name content.images ≡ None →
    covered_below (tree_of content) name ≡ []
covered_nothing content held name none_there =
    let lost : is_some (node_named (images_in (tree_of content)) name) ≡ false =
    named_among (images_in (tree_of content)) name ∙ sym (image_among content held name) ∙ ap is_some none_there in
    by (node_named (images_in (tree_of content)) name) refl lost
  where
    by : (found : Option (Sibling PropertyMap)) → node_named (images_in (tree_of content)) name ≡ found → is_some found ≡ false →
        covered_below (tree_of content) name ≡ []
    by None is lost = rw is refl
    by (Some sibling) is lost = absurd cc

-- A list that takes the things of another one by one has all of them in the end.
pub gathered_all : {X Y : Type 0} (done initial : List Y) (f : List X → List Y) (left all : List X) →
    done ++ f left ≡ initial ++ f all → left ≡ [] → f [] ≡ [] → initial ≡ [] → done ≡ f all
gathered_all done initial f left all so_far nothing of_nothing empty =
    sym (append-nil done) ∙ ap (λ l. done ++ l) (sym of_nothing) ∙ ap (λ l. done ++ f l) (sym nothing) ∙ so_far ∙ ap (λ l. l ++ f all) empty

-- The list that a signature node records.
pub recorded_some : (sibling : Sibling FileNode) (found : Option (Bor (List ℕ))) (value : Bor (List ℕ)) →
    option_map (λ value. value.now) found ≡ value_named (properties_of sibling.own) hashed_nodes_name → found ≡ Some value →
    names_of_value value.now ≡ recorded_paths (meaning_of_sibling sibling)
recorded_some sibling found value is there =
    ap (λ (found : Option (Bor (List ℕ))). option_and_then names_of_value (option_map (λ value. value.now) found)) (sym there)
    ∙ ap (option_and_then names_of_value) (is ∙ sym (get-by_name (properties_of sibling.own) hashed_nodes_name))

pub recorded_none : (sibling : Sibling FileNode) (found : Option (Bor (List ℕ))) →
    option_map (λ value. value.now) found ≡ value_named (properties_of sibling.own) hashed_nodes_name → found ≡ None →
    None ≡ recorded_paths (meaning_of_sibling sibling)
recorded_none sibling found is there =
    ap (λ (found : Option (Bor (List ℕ))). option_and_then names_of_value (option_map (λ value. value.now) found)) (sym there)
    ∙ ap (option_and_then names_of_value) (is ∙ sym (get-by_name (properties_of sibling.own) hashed_nodes_name))

-- Whether something is there does not change by a function.
mapped_some : {X Y : Type 0} (f : X → Y) (found : Option X) → is_some (option_map f found) ≡ is_some found
mapped_some f None = refl
mapped_some f (Some thing) = refl

module _ {X : Type 0} (nodes : Nodes FileNode) (hashes : List (List ℕ)) (f : X → Sibling FileNode) (found : Option X)
    (is : option_map f found ≡ node_named nodes cipher_name) (are : hashes ≡ filter is_hash_name (names nodes)) where
  cipher_among : is_among cipher_name (names nodes) ≡ is_some found
  cipher_among = sym (named_among nodes cipher_name) ∙ ap is_some (sym is) ∙ mapped_some f found

  -- There is a cipher.
  pub with_cipher : is_some found ≡ true → hashes ++ cipher_name ∷ [] ≡ covered_names (names nodes)
  with_cipher there =
      let among : is_among cipher_name (names nodes) ≡ true = cipher_among ∙ there in
      rw among (ap (λ l. l ++ cipher_name ∷ []) are)

  -- Or there is none.
  pub without_cipher : is_some found ≡ false → hashes ≡ covered_names (names nodes)
  without_cipher lost =
      let among : is_among cipher_name (names nodes) ≡ false = cipher_among ∙ lost in
      rw among (are ∙ sym (append-nil (filter is_hash_name (names nodes))))
