use Rattle.std.proofs.Common.{◌≡◌, ◌≢◌, ℕ, zero, suc, Bool, true, false, cond, not, List, [], ◌∷◌, Option, Some, None, drop, filter}
use Rattle.std.proofs.Common.{option_map, slice_get, refl, sym, ap, subst, ◌∙◌, ◌+◌, add-one}
use Rattle.std.specs.Cmp.Lexicographic.{slice_cmp}
use Rattle.std.specs.FinMap.{find, get-from_entries}
use Rattle.std.specs.Ordering.{eq_by_cmp, nat_cmp}
use Rattle.std.proofs.lemmas.Cmp.{nat_list_cmp_total}
use Rattle.std.proofs.lemmas.Map.Text.{is_eq-slice_cmp}
use Rattle.bi_base.proofs.EqualBytes.{same_bytes}
use Rattle.bi_base.proofs.ListMembers.{each-filter}
use Rattle.bi_blob.specs.Tree.{AreDistinct, IsNew}
use Rattle.bi_fdt.specs.Numbers.{IsNumberOf}
use Rattle.bi_fit.specs.declared.image.Image.{Image}
use Rattle.bi_fit.specs.ImageTree.{without_payload}
use Rattle.bi_fit.specs.Names.{is_payload_name}
use Rattle.bi_fit.specs.NormalNodes.{payloads_of}
use Rattle.bi_fit.proofs.PayloadProperties.{get-without, same}
use Rattle.bi_tree.specs.Properties.{TreePropertyModel, own_property_names, tree_properties, tree_property, without_numbers}
use Rattle.bi_tree.specs.Trees.{AreNumberedAmong, by_name}
use Rattle.bi_tree.specs.declared.properties.TreeProperty.{TreeProperty}
use Rattle.bi_plain.specs.PlainNodes.{first_or_none, without_first, without_payload_names}

-- The properties that hold a payload or name its region are taken out, and a payload is put in.

-- Whether a property stays.
abbrev pub stays : List ℕ → Bool
stays name = not (is_payload_name name)

-- The code keeps the properties that stay.
kept_first : (first : TreeProperty) (later : List TreeProperty) →
    tree_properties (filter (λ property. stays property.name.now) later) ≡ without_payload_names (tree_properties later) → (b : Bool) →
    stays first.name.now ≡ b →
    tree_properties (filter (λ property. stays property.name.now) (first ∷ later)) ≡ without_payload_names (tree_properties (first ∷ later))
kept_first first later rest true is = rw is (ap (λ l. tree_property first ∷ l) rest)
kept_first first later rest false is = rw is rest

pub kept_are : (items : List TreeProperty) →
    tree_properties (filter (λ property. stays property.name.now) items) ≡ without_payload_names (tree_properties items)
kept_are [] = refl
kept_are (first ∷ later) = kept_first first later (kept_are later) (stays first.name.now) refl

-- By name they are the properties without those of payloads.
abbrev found : List ℕ → List TreePropertyModel → Option (List ℕ)
found name properties = find (slice_cmp nat_cmp) name (without_numbers properties)

abbrev is_same : List ℕ → List ℕ → Bool
is_same name other = eq_by_cmp (slice_cmp nat_cmp) name other

abbrev IsFoundKept : List ℕ → List TreePropertyModel → Type 0
IsFoundKept name properties = found name (without_payload_names properties) ≡ cond (stays name) (found name properties) None

cond_none : (b : Bool) (nothing : Option (List ℕ)) → nothing ≡ cond b nothing nothing
cond_none true nothing = refl
cond_none false nothing = refl

-- A property that stays is found as before, and another that is taken out is not found.
found_first_kept : (name : List ℕ) (first : TreePropertyModel) (later : List TreePropertyModel) → IsFoundKept name later →
    stays first.name ≡ true → (b : Bool) → is_same name first.name ≡ b →
    cond b (Some first.value) (found name (without_payload_names later))
    ≡ cond (stays name) (cond b (Some first.value) (found name later)) None
found_first_kept name first later rest kept true equal =
    subst (λ b. Some first.value ≡ cond b (Some first.value) None)
    (sym (ap stays (same_bytes name first.name (sym (is_eq-slice_cmp name first.name) ∙ equal)) ∙ kept)) refl
found_first_kept name first later rest kept false differs = rest

gone : (b : Bool) (value other : Option (List ℕ)) → b ≡ false → cond b value None ≡ cond b other None
gone b value other is = ap (λ b. cond b value None) is ∙ sym (ap (λ b. cond b other None) is)

found_first_out : (name : List ℕ) (first : TreePropertyModel) (later : List TreePropertyModel) → IsFoundKept name later →
    stays first.name ≡ false → (b : Bool) → is_same name first.name ≡ b →
    found name (without_payload_names later) ≡ cond (stays name) (cond b (Some first.value) (found name later)) None
found_first_out name first later rest out true equal =
    rest ∙ gone (stays name) (found name later) (Some first.value)
    (ap stays (same_bytes name first.name (sym (is_eq-slice_cmp name first.name) ∙ equal)) ∙ out)
found_first_out name first later rest out false differs = rest

found_first : (name : List ℕ) (first : TreePropertyModel) (later : List TreePropertyModel) → IsFoundKept name later → (b : Bool) →
    stays first.name ≡ b → IsFoundKept name (first ∷ later)
found_first name first later rest true is = rw is (found_first_kept name first later rest is (is_same name first.name) refl)
found_first name first later rest false is = rw is (found_first_out name first later rest is (is_same name first.name) refl)

found_kept : (name : List ℕ) (properties : List TreePropertyModel) → IsFoundKept name properties
found_kept name [] = cond_none (stays name) None
found_kept name (first ∷ later) = found_first name first later (found_kept name later) (stays first.name) refl

pub without_payload_by_name : (properties : List TreePropertyModel) →
    by_name (without_payload_names properties) ≡ without_payload (by_name properties)
without_payload_by_name properties =
    same _ _ (λ name.
    get-from_entries nat_list_cmp_total (without_numbers (without_payload_names properties)) name
    ∙ found_kept name properties
    ∙ ap (λ o. cond (stays name) o None) (sym (get-from_entries nat_list_cmp_total (without_numbers properties) name))
    ∙ sym (get-without (by_name properties) name))

-- They still give the numbers of their names.
new_kept_first : (name : List ℕ) (first : TreePropertyModel) (later : List TreePropertyModel) → first.name ≢ name →
    IsNew name (own_property_names (without_payload_names later)) → (b : Bool) → stays first.name ≡ b →
    IsNew name (own_property_names (without_payload_names (first ∷ later)))
new_kept_first name first later differs rest true is = rw is (differs, rest)
new_kept_first name first later differs rest false is = rw is rest

new_kept : (name : List ℕ) (properties : List TreePropertyModel) → IsNew name (own_property_names properties) →
    IsNew name (own_property_names (without_payload_names properties))
new_kept name [] new = tt
new_kept name (first ∷ later) new =
    new_kept_first name first later new.0 (new_kept name later new.1) (stays first.name) refl

distinct_kept_first : (first : TreePropertyModel) (later : List TreePropertyModel) → IsNew first.name (own_property_names later) →
    AreDistinct (own_property_names (without_payload_names later)) → (b : Bool) → stays first.name ≡ b →
    AreDistinct (own_property_names (without_payload_names (first ∷ later)))
distinct_kept_first first later new rest true is = rw is (new_kept first.name later new, rest)
distinct_kept_first first later new rest false is = rw is rest

distinct_kept : (properties : List TreePropertyModel) → AreDistinct (own_property_names properties) →
    AreDistinct (own_property_names (without_payload_names properties))
distinct_kept [] distinct = tt
distinct_kept (first ∷ later) distinct =
    distinct_kept_first first later distinct.0 (distinct_kept later distinct.1) (stays first.name) refl

pub numbered_kept : (names : List (List ℕ)) (properties : List TreePropertyModel) → AreNumberedAmong names properties →
    AreNumberedAmong names (without_payload_names properties)
numbered_kept names properties all = record {
  distinct = distinct_kept properties all.distinct;
  numbered = each-filter (λ property. IsNumberOf names property.name property.number) (λ property. stays property.name) properties
      all.numbered;
}

-- The payload of the image at an index.
pub payload_there : (images : List Image) (index : ℕ) (image : Image) → slice_get images index ≡ Some image →
    option_map (λ payload. payload.now) image.payload ≡ first_or_none (drop index (payloads_of images))
payload_there [] index image is = absurd cc
payload_there (first ∷ later) zero image is =
    let same : first ≡ image = cc in ap (λ one. option_map (λ payload. payload.now) one.payload) (sym same)
payload_there (first ∷ later) (suc index) image is = payload_there later index image is

pub no_payload_there : (images : List Image) (index : ℕ) → slice_get images index ≡ None →
    None ≡ first_or_none (drop index (payloads_of images))
no_payload_there [] zero is = refl
no_payload_there [] (suc index) is = refl
no_payload_there (first ∷ later) zero is = absurd cc
no_payload_there (first ∷ later) (suc index) is = no_payload_there later index is

fewer : (payloads : List (Option (List ℕ))) (index : ℕ) → drop (suc index) payloads ≡ without_first (drop index payloads)
fewer [] zero = refl
fewer [] (suc index) = refl
fewer (payload ∷ payloads) zero = refl
fewer (payload ∷ payloads) (suc index) = fewer payloads index

-- The payloads after the next one.
pub one_payload_fewer : (payloads : List (Option (List ℕ))) (index : ℕ) → drop (index + 1) payloads ≡ without_first (drop index payloads)
one_payload_fewer payloads index = ap (λ n. drop n payloads) (add-one index) ∙ fewer payloads index
