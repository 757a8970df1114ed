use Rattle.std.proofs.Common.{◌≡◌, ◌≢◌, ℕ, Bool, true, false, cond, List, [], ◌∷◌, Option, Some, None, bytes_eq, is_some, option_map, refl}
use Rattle.std.proofs.Common.{sym, ap}
use Rattle.std.proofs.Common.{subst, ◌∙◌, true≢false}
use Rattle.std.specs.Option.{option_and_then}
use Rattle.std.specs.FinMap.{empty, get, get-remove, insert, remove}
use Rattle.std.proofs.lemmas.Cmp.{nat_list_cmp_total}
use Rattle.std.proofs.lemmas.Map.Text.{is_eq-slice_cmp}
use Rattle.std.proofs.lemmas.Slice.Eq.{bytes_eq-Decides}
use Rattle.bi_base.proofs.EqualBytes.{same_bytes}
use Rattle.bi_base.specs.Cells.{cell}
use Rattle.bi_blob.specs.Tree.{Root, PropertyMap}
use Rattle.bi_fit.specs.Names.{data_name, timestamp_name}
use Rattle.bi_fit.proofs.PayloadProperties.{get-put, get-put_other, same}
use Rattle.bi_tree.specs.Changes.{node_by_path, with_change_at, with_node_at}
use Rattle.bi_tree.specs.Trees.{value_by_path, with_own_value, without_own_value}
use Rattle.bi_plain.specs.Plain.{with_plain_root}
use Rattle.bi_plain.proofs.PlainTrees.{each_image_tree_has_plain_tree}
use Rattle.bi_edit.specs.declared.edit.Edit.{Edit}
use Rattle.bi_edit.specs.declared.edit.Edit.TheVariants.{RemoveNode, RemoveProperty, SetProperty}
use Rattle.bi_edit.specs.declared.edit.Edit.TheVariants.{SetField, SetPayload, SetTime, SetDigests}
use Rattle.bi_edit.specs.EditLaws.{IsNamedBy, NothingChanges, OtherValuesStay, SetValuesAreThere, SettingWhatIsThere}
use Rattle.bi_edit.specs.Edits.{edited_root}
use Rattle.bi_edit.specs.Places.{image_path}
use Rattle.bi_edit.proofs.OtherValues.{change_found, value_kept_at, value_kept_with, value_kept_without, unchanged_at, with_found}
use Rattle.bi_edit.proofs.OtherDigests.{kept_with_digests}
use Rattle.bi_edit.proofs.PartNumbers.{differs}
use Rattle.bi_edit.proofs.PresentNodes.{nodes_there}

-- Laws of edits.

-- A value of another name.
other_put : (own : PropertyMap) (name other value : List ℕ) → other ≢ name → get (insert own name value) other ≡ get own other
other_put own name other value apart = get-put_other own name value other (differs other name apart (bytes_eq other name) refl)

other_removed : (own : PropertyMap) (name other : List ℕ) → other ≢ name → get (remove own name) other ≡ get own other
other_removed own name other apart =
    get-remove nat_list_cmp_total own name other
    ∙ ap (λ b. cond b None (get own other)) (is_eq-slice_cmp other name ∙ differs other name apart (bytes_eq other name) refl)

edit_stays : (root : Root PropertyMap) (edit : Edit) (path : List (List ℕ)) (name : List ℕ) → ¬ (IsNamedBy edit path name) →
    value_by_path (edited_root root edit) path name ≡ value_by_path root path name
edit_stays root (RemoveNode removed) path name apart = value_kept_without removed path name apart root
edit_stays root (RemoveProperty place) path name apart =
    value_kept_at place.path (without_own_value place.name) (λ root. refl) path name
    (λ same root. other_removed root.own place.name name (λ is. apart (same, is))) root
edit_stays root (SetProperty place value) path name apart =
    value_kept_at place.path (with_own_value place.name value.items) (λ root. refl) path name
    (λ same root. other_put root.own place.name name value.items (λ is. apart (same, is))) (with_node_at empty place.path root)
    ∙ value_kept_with place.path path name (λ n. (bytes_eq-Decides n n).1 refl) root
edit_stays root (SetField value) path name apart = refl
edit_stays root (SetPayload image payload) path name apart =
    value_kept_at (image_path image) (with_own_value data_name payload.now) (λ root. refl) path name
    (λ same root. other_put root.own data_name name payload.now (λ is. apart (same, is))) root
edit_stays root (SetTime time) path name apart =
    value_kept_at [] (with_own_value timestamp_name (cell time)) (λ root. refl) path name
    (λ same root. other_put root.own timestamp_name name (cell time) (λ is. apart (same, is))) root
edit_stays root SetDigests path name apart = kept_with_digests path name apart root

pub other_values_stay : OtherValuesStay
other_values_stay root [] path name apart = refl
other_values_stay root (edit ∷ later) path name apart =
    other_values_stay (edited_root root edit) later path name apart.1 ∙ edit_stays root edit path name apart.0

-- ---- what is set

value_found : (found : Option (Root PropertyMap)) (name value : List ℕ) → is_some found ≡ true →
    option_and_then (λ found. get found.own name) (option_map (with_own_value name value) found) ≡ Some value
value_found None name value there = absurd (true≢false (sym there))
value_found (Some found) name value there = get-put found.own name value

pub set_values_are_there : SetValuesAreThere
set_values_are_there root place value later apart =
    other_values_stay (edited_root root (SetProperty place value)) later place.path place.name apart
    ∙ ap (option_and_then (λ found. get found.own place.name))
    (change_found place.path (with_own_value place.name value.items) (with_node_at empty place.path root))
    ∙ value_found (node_by_path (with_node_at empty place.path root) place.path) place.name value.items
    (with_found place.path (λ n. (bytes_eq-Decides n n).1 refl) root)

-- ---- what is there

put_same : (own : PropertyMap) (name value : List ℕ) → get own name ≡ Some value → insert own name value ≡ own
put_same own name value is = same (insert own name value) own (λ other. by other (bytes_eq other name) refl) where
  by : (other : List ℕ) (b : Bool) → bytes_eq other name ≡ b → get (insert own name value) other ≡ get own other
  by other true equal =
      subst (λ other. get (insert own name value) other ≡ get own other) (sym (same_bytes other name equal))
      (get-put own name value ∙ sym is)
  by other false differ = get-put_other own name value other differ

some_there : (found : Option (Root PropertyMap)) (name value : List ℕ) →
    option_and_then (λ found. get found.own name) found ≡ Some value → is_some found ≡ true
some_there None name value is = absurd cc
some_there (Some found) name value is = refl

pub setting_what_is_there : SettingWhatIsThere
setting_what_is_there root place value is =
    ap (with_change_at place.path (with_own_value place.name value.items))
    (nodes_there empty place.path root (some_there (node_by_path root place.path) place.name value.items is))
    ∙ unchanged_at place.path (with_own_value place.name value.items) root (λ found there.
    ap (λ own. record { own = own; children = found.children })
    (put_same found.own place.name value.items
    (sym (ap (option_and_then (λ found. get found.own place.name)) there) ∙ is)))

-- Edits that change nothing.
pub nothing_changes : NothingChanges
nothing_changes tree edits is stays =
    ap (λ root. with_plain_root root tree) stays ∙ (each_image_tree_has_plain_tree tree is).same
