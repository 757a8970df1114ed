use Rattle.std.proofs.Common.{◌≡◌, ℕ, Bool, true, false, List, [], ◌∷◌, ◌++◌, Option, refl, sym, ap, ap₂, ◌∙◌, append_assoc, append-nil}
use Rattle.bi_blob.specs.Lookups.{Sibling, siblings}
use Rattle.bi_blob.specs.Tree.{FileNode}
use Rattle.bi_fit.specs.Content.{ImageModel, payloads_of_models}
use Rattle.bi_fit.specs.Names.{is_hash_name}
use Rattle.bi_c.specs.VerdictElements.{hash_elements, hash_elements_among}
use Rattle.bi_c.specs.declared.verdicts.HashElement.{HashElement}

-- The elements of hash nodes are added one after the other.

-- A child that is not a hash node adds none.
pub other_has_none : (image : Sibling FileNode) (payload : Option (List ℕ)) (child : Sibling FileNode) →
    is_hash_name child.name ≡ false → hash_elements_among image payload (child ∷ []) ≡ []
other_has_none image payload child is = rw is refl

-- The elements of the first child come before those of the later children.
first_child_first : (image : Sibling FileNode) (payload : Option (List ℕ)) (child : Sibling FileNode) (later : List (Sibling FileNode)) →
    hash_elements_among image payload (child ∷ later)
    ≡ hash_elements_among image payload (child ∷ []) ++ hash_elements_among image payload later
first_child_first image payload child later = by (is_hash_name child.name) refl
  where
    by : (b : Bool) → is_hash_name child.name ≡ b → hash_elements_among image payload (child ∷ later)
        ≡ hash_elements_among image payload (child ∷ []) ++ hash_elements_among image payload later
    by true is = rw is refl
    by false is = rw is refl

-- The elements that were added and those that are left are all elements. This holds after one more child,
pub one_child_added : (image : Sibling FileNode) (payload : Option (List ℕ)) (child : Sibling FileNode)
    (left later : List (Sibling FileNode)) (before now all : List HashElement) → left ≡ child ∷ later →
    now ≡ before ++ hash_elements_among image payload (child ∷ []) → before ++ hash_elements_among image payload left ≡ all →
    now ++ hash_elements_among image payload later ≡ all
one_child_added image payload child left later before now all is added so_far =
    ap (λ l. l ++ hash_elements_among image payload later) added
    ∙ append_assoc before (hash_elements_among image payload (child ∷ [])) (hash_elements_among image payload later)
    ∙ ap (λ l. before ++ l)
    (sym (first_child_first image payload child later) ∙ ap (hash_elements_among image payload) (sym is))
    ∙ so_far

-- and after one more image.
pub one_image_added : (node : Sibling FileNode) (left later : List (Sibling FileNode)) (image : ImageModel) (images rest : List ImageModel)
    (payload : Option (List ℕ)) (before now all : List HashElement) → left ≡ node ∷ later → images ≡ image ∷ rest →
    payload ≡ image.payload → now ≡ before ++ hash_elements_among node payload (siblings node.children) →
    before ++ hash_elements left (payloads_of_models images) ≡ all → now ++ hash_elements later (payloads_of_models rest) ≡ all
one_image_added node left later image images rest payload before now all is are same added so_far =
    let after : List HashElement = hash_elements later (payloads_of_models rest) in
    let here : List HashElement = hash_elements_among node image.payload (siblings node.children) in
    ap (λ l. l ++ after) (added ∙ ap (λ (p : Option (List ℕ)). before ++ hash_elements_among node p (siblings node.children)) same)
    ∙ append_assoc before here after
    ∙ ap (λ l. before ++ l) (sym (ap₂ (λ nodes models. hash_elements nodes (payloads_of_models models)) is are))
    ∙ so_far

-- If no node is left, no element is left.
pub no_node_left_to_judge : (payloads : List (Option (List ℕ))) → hash_elements [] payloads ≡ []
no_node_left_to_judge [] = refl
no_node_left_to_judge (payload ∷ payloads) = refl

-- If no image is left, no element is left.
pub no_image_left_to_judge : (nodes : List (Sibling FileNode)) → hash_elements nodes [] ≡ []
no_image_left_to_judge [] = refl
no_image_left_to_judge (node ∷ nodes) = refl

-- At the end all elements were added.
pub all_are_added : (nodes : List (Sibling FileNode)) (payloads : List (Option (List ℕ))) (now all : List HashElement) →
    hash_elements nodes payloads ≡ [] → now ++ hash_elements nodes payloads ≡ all → now ≡ all
all_are_added nodes payloads now all none so_far = sym (append-nil now) ∙ ap (λ l. now ++ l) (sym none) ∙ so_far
