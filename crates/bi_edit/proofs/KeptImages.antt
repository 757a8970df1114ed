use Rattle.std.proofs.Common.{◌≡◌, ◌≢◌, ℕ, Bool, true, false, cond, List, [], ◌∷◌, Some, None, bytes_eq, refl, sym, ap, subst, ◌∙◌}
use Rattle.std.proofs.Common.{nat_cmp, true≢false}
use Rattle.std.specs.Cmp.Lexicographic.{slice_cmp}
use Rattle.std.specs.FinMap.{empty, get, get-empty, get-remove, insert, remove}
use Rattle.std.specs.List.{AllByRecursion}
use Rattle.std.specs.Ordering.{eq_by_cmp}
use Rattle.std.proofs.lemmas.Cmp.{nat_list_cmp_total}
use Rattle.std.proofs.lemmas.Slice.Eq.{bytes_eq-Decides}
use Rattle.bi_base.proofs.EqualBytes.{same_bytes}
use Rattle.bi_blob.specs.Tree.{Nodes, none, node, Root, PropertyMap}
use Rattle.bi_fit.specs.ImageTree.{children_of, each_own}
use Rattle.bi_fit.specs.Names.{data_name, images_name, is_payload_name}
use Rattle.bi_fit.proofs.Meanings.{same_in_some}
use Rattle.bi_fit.proofs.PayloadProperties.{get-put_other}
use Rattle.bi_tree.specs.Changes.{with_change_at, with_new_node, with_node, with_node_at, without_node, without_node_at}
use Rattle.bi_plain.specs.Plain.{HasOnlyData}
use Rattle.bi_edit.specs.Places.{images_path}

-- Changes at paths keep the image nodes, and of the four properties of payloads at most `data` in them.

abbrev pub HaveOnlyData : Nodes PropertyMap → Type 0
HaveOnlyData nodes = AllByRecursion HasOnlyData (each_own nodes)

-- There are image nodes, and they have at most `data`.
pub record HasPlainImages (nodes : Nodes PropertyMap) : Type 0 where
  pub images : Nodes PropertyMap
  pub found : children_of images_name nodes ≡ Some images
  pub only : HaveOnlyData images

-- ---- the children of the root

images_with_node : (name : List ℕ) (change : Root PropertyMap → Root PropertyMap) →
    (name ≡ images_name → (root : Root PropertyMap) → HaveOnlyData root.children → HaveOnlyData (change root).children) →
    (nodes : Nodes PropertyMap) → HasPlainImages nodes → HasPlainImages (with_node name change nodes)
images_with_node name change keeps none has = absurd (nothing has.found) where
  nothing : children_of images_name none ≡ Some has.images → ⊥
  nothing is = cc
images_with_node name change keeps (node other own children later) has =
    by_images (bytes_eq other images_name) refl (bytes_eq other name) refl has.found
    (λ found. images_with_node name change keeps later (record { images = has.images; found = found; only = has.only }))
  where
    by_images : (b : Bool) → bytes_eq other images_name ≡ b → (c : Bool) → bytes_eq other name ≡ c →
        children_of images_name (node other own children later) ≡ Some has.images →
        (children_of images_name later ≡ Some has.images → HasPlainImages (with_node name change later)) →
        HasPlainImages (with_node name change (node other own children later))
    by_images true is true is_name found rest =
        let here : children ≡ has.images = same_in_some children has.images (rw is at found) in
        rw is_name (record {
          images = (change (record { own = own; children = children })).children;
          found = rw is refl;
          only = keeps (sym (same_bytes other name is_name) ∙ same_bytes other images_name is) (record { own = own; children = children })
              (subst HaveOnlyData (sym here) has.only);
        })
    by_images true is false is_name found rest =
        let here : children ≡ has.images = same_in_some children has.images (rw is at found) in
        rw is_name (record { images = children; found = rw is refl; only = subst HaveOnlyData (sym here) has.only })
    by_images false is true is_name found rest =
        rw is_name (record { images = has.images; found = rw is (rw is at found); only = has.only })
    by_images false is false is_name found rest =
        let after = rest (rw is at found) in
        rw is_name (record { images = after.images; found = rw is after.found; only = after.only })

images_with_new : (name : List ℕ) (nodes : Nodes PropertyMap) → HasPlainImages nodes → HasPlainImages (with_new_node empty name nodes)
images_with_new name none has = absurd (nothing has.found) where
  nothing : children_of images_name none ≡ Some has.images → ⊥
  nothing is = cc
images_with_new name (node other own children later) has =
    by_images (bytes_eq other images_name) refl (bytes_eq other name) refl has.found
    (λ found. images_with_new name later (record { images = has.images; found = found; only = has.only }))
  where
    by_images : (b : Bool) → bytes_eq other images_name ≡ b → (c : Bool) → bytes_eq other name ≡ c →
        children_of images_name (node other own children later) ≡ Some has.images →
        (children_of images_name later ≡ Some has.images → HasPlainImages (with_new_node empty name later)) →
        HasPlainImages (with_new_node empty name (node other own children later))
    by_images b is true is_name found rest = rw is_name has
    by_images true is false is_name found rest =
        rw is_name (record { images = has.images; found = rw is (rw is at found); only = has.only })
    by_images false is false is_name found rest =
        let after = rest (rw is at found) in
        rw is_name (record { images = after.images; found = rw is after.found; only = after.only })

images_without : (name : List ℕ) → name ≢ images_name → (nodes : Nodes PropertyMap) → HasPlainImages nodes →
    HasPlainImages (without_node name nodes)
images_without name differs none has = absurd (nothing has.found) where
  nothing : children_of images_name none ≡ Some has.images → ⊥
  nothing is = cc
images_without name differs (node other own children later) has =
    by_images (bytes_eq other images_name) refl (bytes_eq other name) refl has.found
    (λ found. images_without name differs later (record { images = has.images; found = found; only = has.only }))
  where
    by_images : (b : Bool) → bytes_eq other images_name ≡ b → (c : Bool) → bytes_eq other name ≡ c →
        children_of images_name (node other own children later) ≡ Some has.images →
        (children_of images_name later ≡ Some has.images → HasPlainImages (without_node name later)) →
        HasPlainImages (without_node name (node other own children later))
    by_images true is true is_name found rest =
        absurd (differs (sym (same_bytes other name is_name) ∙ same_bytes other images_name is))
    by_images false is true is_name found rest =
        rw is_name (record { images = has.images; found = rw is at found; only = has.only })
    by_images true is false is_name found rest =
        rw is_name (record { images = has.images; found = rw is (rw is at found); only = has.only })
    by_images false is false is_name found rest =
        let after = rest (rw is at found) in
        rw is_name (record { images = after.images; found = rw is after.found; only = after.only })

-- ---- the image nodes

only_with_node : (name : List ℕ) (change : Root PropertyMap → Root PropertyMap) →
    ((root : Root PropertyMap) → HasOnlyData root.own → HasOnlyData (change root).own) → (nodes : Nodes PropertyMap) →
    HaveOnlyData nodes → HaveOnlyData (with_node name change nodes)
only_with_node name change keeps none only = only
only_with_node name change keeps (node other own children later) only =
    by_name (bytes_eq other name) refl (only_with_node name change keeps later only.1)
  where
    by_name : (b : Bool) → bytes_eq other name ≡ b → HaveOnlyData (with_node name change later) →
        HaveOnlyData (with_node name change (node other own children later))
    by_name true is rest = rw is (keeps (record { own = own; children = children }) only.0, only.1)
    by_name false is rest = rw is (only.0, rest)

only_with_new : (name : List ℕ) (nodes : Nodes PropertyMap) → HaveOnlyData nodes → HaveOnlyData (with_new_node empty name nodes)
only_with_new name none only = ((λ found is other. get-empty (slice_cmp nat_cmp) found), tt)
only_with_new name (node other own children later) only =
    by_name (bytes_eq other name) refl (only_with_new name later only.1)
  where
    by_name : (b : Bool) → bytes_eq other name ≡ b → HaveOnlyData (with_new_node empty name later) →
        HaveOnlyData (with_new_node empty name (node other own children later))
    by_name true is rest = rw is only
    by_name false is rest = rw is (only.0, rest)

only_without : (name : List ℕ) (nodes : Nodes PropertyMap) → HaveOnlyData nodes → HaveOnlyData (without_node name nodes)
only_without name none only = only
only_without name (node other own children later) only =
    by_name (bytes_eq other name) refl (only_without name later only.1)
  where
    by_name : (b : Bool) → bytes_eq other name ≡ b → HaveOnlyData (without_node name later) →
        HaveOnlyData (without_node name (node other own children later))
    by_name true is rest = rw is only.1
    by_name false is rest = rw is (only.0, rest)

-- ---- at a path

-- What a change makes of the properties of an image node, if the path is that of one.
abbrev pub KeepsData : List (List ℕ) → (Root PropertyMap → Root PropertyMap) → Type 0
KeepsData path change =
    (name image : List ℕ) → path ≡ name ∷ image ∷ [] → name ≡ images_name → (root : Root PropertyMap) → HasOnlyData root.own →
    HasOnlyData (change root).own

pub plain_images_at : (path : List (List ℕ)) (change : Root PropertyMap → Root PropertyMap) →
    ((root : Root PropertyMap) → (change root).children ≡ root.children) → KeepsData path change →
    (root : Root PropertyMap) → HasPlainImages root.children → HasPlainImages (with_change_at path change root).children
plain_images_at [] change same keeps root has = subst HasPlainImages (sym (same root)) has
plain_images_at (name ∷ []) change same keeps root has =
    images_with_node name change (λ is below only. subst HaveOnlyData (sym (same below)) only) root.children has
plain_images_at (name ∷ image ∷ []) change same keeps root has =
    images_with_node name (with_change_at (image ∷ []) change)
    (λ is below only. only_with_node image change (keeps name image refl is) below.children only) root.children has
plain_images_at (name ∷ image ∷ next ∷ later) change same keeps root has =
    images_with_node name (with_change_at (image ∷ next ∷ later) change)
    (λ is below only. only_with_node image (with_change_at (next ∷ later) change) (λ below only. only) below.children only)
    root.children has

own_with : (path : List (List ℕ)) (root : Root PropertyMap) → (with_node_at empty path root).own ≡ root.own
own_with [] root = refl
own_with (name ∷ later) root = refl

only_with : (path : List (List ℕ)) (root : Root PropertyMap) → HaveOnlyData root.children →
    HaveOnlyData (with_node_at empty path root).children
only_with [] root only = only
only_with (image ∷ later) root only =
    only_with_node image (with_node_at empty later) (λ below only. subst HasOnlyData (sym (own_with later below)) only)
    (with_new_node empty image root.children) (only_with_new image root.children only)

pub plain_images_with : (path : List (List ℕ)) (root : Root PropertyMap) → HasPlainImages root.children →
    HasPlainImages (with_node_at empty path root).children
plain_images_with [] root has = has
plain_images_with (name ∷ later) root has =
    images_with_node name (with_node_at empty later) (λ is below only. only_with later below only)
    (with_new_node empty name root.children) (images_with_new name root.children has)

own_without : (path : List (List ℕ)) (root : Root PropertyMap) → (without_node_at path root).own ≡ root.own
own_without [] root = refl
own_without (name ∷ []) root = refl
own_without (name ∷ next ∷ later) root = refl

only_without_at : (path : List (List ℕ)) (root : Root PropertyMap) → HaveOnlyData root.children →
    HaveOnlyData (without_node_at path root).children
only_without_at [] root only = only
only_without_at (image ∷ []) root only = only_without image root.children only
only_without_at (image ∷ next ∷ later) root only =
    only_with_node image (without_node_at (next ∷ later)) (λ below only. subst HasOnlyData (sym (own_without (next ∷ later) below)) only)
    root.children only

pub images_without_at : (path : List (List ℕ)) → path ≢ images_path → (root : Root PropertyMap) → HasPlainImages root.children →
    HasPlainImages (without_node_at path root).children
images_without_at [] differs root has = has
images_without_at (name ∷ []) differs root has =
    images_without name (λ is. differs (ap (λ name. name ∷ []) is)) root.children has
images_without_at (name ∷ next ∷ later) differs root has =
    images_with_node name (without_node_at (next ∷ later)) (λ is below only. only_without_at (next ∷ later) below only) root.children has

-- ---- properties

pub only-put : (properties : PropertyMap) (name value : List ℕ) → is_payload_name name ≡ false → HasOnlyData properties →
    HasOnlyData (insert properties name value)
only-put properties name value differs only found is other =
    get-put_other properties name value found (by_same (bytes_eq found name) refl) ∙ only found is other
  where
    by_same : (b : Bool) → bytes_eq found name ≡ b → bytes_eq found name ≡ false
    by_same true equal =
        absurd (true≢false (sym is ∙ ap is_payload_name ((bytes_eq-Decides found name).0 equal) ∙ differs))
    by_same false differ = differ

pub only-put_data : (properties : PropertyMap) (value : List ℕ) → HasOnlyData properties → HasOnlyData (insert properties data_name value)
only-put_data properties value only found is other =
    get-put_other properties data_name value found (by_same (bytes_eq found data_name) refl) ∙ only found is other
  where
    by_same : (b : Bool) → bytes_eq found data_name ≡ b → bytes_eq found data_name ≡ false
    by_same true equal = absurd (other ((bytes_eq-Decides found data_name).0 equal))
    by_same false differ = differ

pub only-remove : (properties : PropertyMap) (name : List ℕ) → HasOnlyData properties → HasOnlyData (remove properties name)
only-remove properties name only found is other =
    get-remove nat_list_cmp_total properties name found ∙ by_same (eq_by_cmp (slice_cmp nat_cmp) found name)
  where
    by_same : (b : Bool) → cond b None (get properties found) ≡ None
    by_same true = refl
    by_same false = only found is other
