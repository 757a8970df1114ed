use Rattle.std.proofs.Common.{◌≡◌, ℕ, Bool, true, false, List, [], ◌∷◌, Option, Some, None, bytes_eq, option_map, refl, sym, ap, subst, ◌∙◌}
use Rattle.std.specs.FinMap.{get}
use Rattle.bi_base.proofs.EqualBytes.{same_bytes}
use Rattle.bi_blob.specs.Tree.{Nodes, none, node, Root, PropertyMap}
use Rattle.bi_fit.specs.ImageTree.{with_children_of}
use Rattle.bi_fit.specs.Names.{data_name, images_name, is_hash_name, value_name}
use Rattle.bi_fit.specs.Updating.{known_algorithm, with_digest, with_digest_by, with_digests, with_digests_of}
use Rattle.bi_fit.proofs.PayloadProperties.{get-put_other}
use Rattle.bi_hash.specs.declared.algo.Algo.{Algo}
use Rattle.bi_hash.specs.Digests.{digest_of}
use Rattle.bi_tree.specs.Changes.{child_named, with_node}
use Rattle.bi_tree.specs.Trees.{value_by_path}
use Rattle.bi_edit.specs.declared.edit.Edit.TheVariants.{SetDigests}
use Rattle.bi_edit.specs.EditLaws.{IsNamedBy}
use Rattle.bi_edit.specs.Edits.{edited_root, with_payload_digests}
use Rattle.bi_edit.proofs.OtherValues.{kept_below, other_child_with, same_child_with, value_below}

-- Digests change only the values of hash nodes.

-- The image nodes are changed as one child of the root.
as_change : (name : List ℕ) (change : Nodes PropertyMap → Nodes PropertyMap) (nodes : Nodes PropertyMap) →
    with_children_of name change nodes ≡ with_node name (λ root. record { own = root.own; children = change root.children }) nodes
as_change name change none = refl
as_change name change (node third own children later) = by (bytes_eq third name) refl (as_change name change later) where
  by : (b : Bool) → bytes_eq third name ≡ b →
      with_children_of name change later ≡ with_node name (λ root. record { own = root.own; children = change root.children }) later →
      with_children_of name change (node third own children later)
      ≡ with_node name (λ root. record { own = root.own; children = change root.children }) (node third own children later)
  by true one rest = rw one refl
  by false one rest = rw one (ap (λ l. node third own children l) rest)

-- ---- hash nodes

hash_found : (payload hash : List ℕ) (nodes : Nodes PropertyMap) →
    child_named (with_digests payload nodes) hash
    ≡ option_map (λ root. record { own = with_digest payload hash root.own; children = root.children }) (child_named nodes hash)
hash_found payload hash none = refl
hash_found payload hash (node third own children later) = by (bytes_eq third hash) refl (hash_found payload hash later) where
  by : (b : Bool) → bytes_eq third hash ≡ b →
      child_named (with_digests payload later) hash
      ≡ option_map (λ root. record { own = with_digest payload hash root.own; children = root.children }) (child_named later hash) →
      child_named (with_digests payload (node third own children later)) hash
      ≡ option_map (λ root. record { own = with_digest payload hash root.own; children = root.children })
      (child_named (node third own children later) hash)
  by true one rest =
      rw one (ap (λ n. Some (record { own = with_digest payload n own; children = children })) (same_bytes third hash one))
  by false one rest = rw one rest

digest_by_stays : (algo : Option Algo) (payload : List ℕ) (own : PropertyMap) (name : List ℕ) → bytes_eq name value_name ≡ false →
    get (with_digest_by algo payload own) name ≡ get own name
digest_by_stays None payload own name differs = refl
digest_by_stays (Some algo) payload own name differs = get-put_other own value_name (digest_of algo payload) name differs

digest_stays : (payload hash : List ℕ) (own : PropertyMap) (name : List ℕ) →
    (is_hash_name hash ≡ true → bytes_eq name value_name ≡ false) → get (with_digest payload hash own) name ≡ get own name
digest_stays payload hash own name apart = by (is_hash_name hash) refl where
  by : (b : Bool) → is_hash_name hash ≡ b → get (with_digest payload hash own) name ≡ get own name
  by true is = rw is (digest_by_stays (known_algorithm own) payload own name (apart is))
  by false is = rw is refl

-- A property of a child of an image node, or of a node below it.
below_hash : (path : List (List ℕ)) (name payload hash : List ℕ) →
    (path ≡ [] → is_hash_name hash ≡ true → bytes_eq name value_name ≡ false) → (root : Root PropertyMap) →
    value_by_path (record { own = with_digest payload hash root.own; children = root.children }) path name ≡ value_by_path root path name
below_hash [] name payload hash apart root = digest_stays payload hash root.own name (apart refl)
below_hash (next ∷ later) name payload hash apart root = refl

below_digests : (path : List (List ℕ)) (name : List ℕ) (payload : Option (List ℕ)) (hash : List ℕ) →
    (path ≡ [] → is_hash_name hash ≡ true → bytes_eq name value_name ≡ false) → (nodes : Nodes PropertyMap) →
    value_below path name (child_named (with_digests_of payload nodes) hash) ≡ value_below path name (child_named nodes hash)
below_digests path name None hash apart nodes = refl
below_digests path name (Some payload) hash apart nodes =
    ap (value_below path name) (hash_found payload hash nodes)
    ∙ kept_below path name (λ root. record { own = with_digest payload hash root.own; children = root.children })
    (below_hash path name payload hash apart) (child_named nodes hash)

-- ---- image nodes

image_found : (image : List ℕ) (nodes : Nodes PropertyMap) →
    child_named (with_payload_digests nodes) image
    ≡ option_map (λ root. record { own = root.own; children = with_digests_of (get root.own data_name) root.children })
    (child_named nodes image)
image_found image none = refl
image_found image (node third own children later) = by (bytes_eq third image) refl (image_found image later) where
  by : (b : Bool) → bytes_eq third image ≡ b →
      child_named (with_payload_digests later) image
      ≡ option_map (λ root. record { own = root.own; children = with_digests_of (get root.own data_name) root.children })
      (child_named later image) →
      child_named (with_payload_digests (node third own children later)) image
      ≡ option_map (λ root. record { own = root.own; children = with_digests_of (get root.own data_name) root.children })
      (child_named (node third own children later) image)
  by true one rest = rw one refl
  by false one rest = rw one rest

below_image : (path : List (List ℕ)) (name : List ℕ) →
    ((hash : List ℕ) → path ≡ hash ∷ [] → is_hash_name hash ≡ true → bytes_eq name value_name ≡ false) → (root : Root PropertyMap) →
    value_by_path (record { own = root.own; children = with_digests_of (get root.own data_name) root.children }) path name
    ≡ value_by_path root path name
below_image [] name apart root = refl
below_image (hash ∷ later) name apart root =
    below_digests later name (get root.own data_name) hash (λ last. apart hash (ap (λ l. hash ∷ l) last)) root.children

below_images : (path : List (List ℕ)) (name : List ℕ) →
    ((image hash : List ℕ) → path ≡ image ∷ hash ∷ [] → is_hash_name hash ≡ true → bytes_eq name value_name ≡ false) →
    (root : Root PropertyMap) →
    value_by_path (record { own = root.own; children = with_payload_digests root.children }) path name ≡ value_by_path root path name
below_images [] name apart root = refl
below_images (image ∷ later) name apart root =
    ap (value_below later name) (image_found image root.children)
    ∙ kept_below later name (λ root. record { own = root.own; children = with_digests_of (get root.own data_name) root.children })
    (below_image later name (λ hash last. apart image hash (ap (λ l. image ∷ l) last))) (child_named root.children image)

not_value : (path : List (List ℕ)) (name : List ℕ) → ¬ (IsNamedBy SetDigests path name) → (image hash : List ℕ) →
    path ≡ images_name ∷ image ∷ hash ∷ [] → is_hash_name hash ≡ true → bytes_eq name value_name ≡ false
not_value path name apart image hash is is_hash = by (bytes_eq name value_name) refl where
  by : (b : Bool) → bytes_eq name value_name ≡ b → bytes_eq name value_name ≡ false
  by true equal =
      absurd (apart (record { image = image; hash = hash; is = is; is_hash = is_hash }, same_bytes name value_name equal))
  by false differ = differ

pub kept_with_digests : (path : List (List ℕ)) (name : List ℕ) → ¬ (IsNamedBy SetDigests path name) → (root : Root PropertyMap) →
    value_by_path (edited_root root SetDigests) path name ≡ value_by_path root path name
kept_with_digests [] name apart root = refl
kept_with_digests (first ∷ later) name apart root =
    ap (λ nodes. value_below later name (child_named nodes first)) (as_change images_name with_payload_digests root.children)
    ∙ by (bytes_eq images_name first) refl
  where
    by : (b : Bool) → bytes_eq images_name first ≡ b →
        value_below later name
        (child_named (with_node images_name (λ root. record { own = root.own; children = with_payload_digests root.children })
        root.children) first)
        ≡ value_below later name (child_named root.children first)
    by true equal =
        let is = same_bytes images_name first equal in
        subst (λ first. value_below later name
        (child_named (with_node images_name (λ root. record { own = root.own; children = with_payload_digests root.children })
        root.children) first)
        ≡ value_below later name (child_named root.children first)) is
        (ap (value_below later name)
        (same_child_with images_name (λ root. record { own = root.own; children = with_payload_digests root.children }) root.children)
        ∙ kept_below later name (λ root. record { own = root.own; children = with_payload_digests root.children })
        (below_images later name (λ image hash last. not_value (first ∷ later) name apart image hash
        (ap (λ l. first ∷ l) last ∙ ap (λ n. n ∷ image ∷ hash ∷ []) (sym is)))) (child_named root.children images_name))
    by false differs =
        ap (value_below later name)
        (other_child_with images_name (λ root. record { own = root.own; children = with_payload_digests root.children }) first differs
        root.children)
