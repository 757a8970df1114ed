use Rattle.std.proofs.Common.{◌≡◌, ℕ, List, ◌∷◌, ◌++◌, Option, Some, None, sym, subst, ◌∙◌, append-nil, append_assoc}
use Rattle.bi_common.specs.Shown.{path, shown_text}
use Rattle.bi_common.proofs.ReadableWords.ShownNames.{same_shown}
use Rattle.bi_edit.specs.declared.edit.Edit.{Edit}
use Rattle.bi_edit.specs.declared.edit.Edit.TheVariants.{RemoveNode, RemoveProperty, SetProperty}
use Rattle.bi_edit.specs.declared.edit.Edit.TheVariants.{SetField, SetPayload, SetTime, SetDigests}
use Rattle.bi_edit.specs.Cuts.{from_byte, IsCutAt}
use Rattle.bi_edit.specs.EditWords.{IsPathWord, IsPropertyWord, IsRemovalWord, IsSettingWord, IsValueAfter}
use Rattle.bi_edit.specs.Places.{IsPlace, IsRemovable, PropertyPlaceModel}
use Rattle.bi_edit.proofs.CutTexts.{cut_is}
use Rattle.bi_edit.proofs.PathNames.{path_no_space, one_path, shown_no_space}

-- The parts of a word for a removal or a new value are those at its spaces.

-- ---- removals

module _ (word first : List ℕ) (after : Option (List ℕ)) (cut : IsCutAt 32 word first after) where
  -- The word of a node has no space.
  node_cut : (names : List (List ℕ)) → path names ≡ word → (path names ≡ first) × (None ≡ after)
  node_cut names is = cut_is 32 word first after cut (path names) None (path_no_space names) (append-nil (path names) ∙ is)

  -- That of a property has one.
  property_cut : (place : PropertyPlaceModel) (rest : List ℕ) → path place.path ++ 32 ∷ rest ≡ word →
      (path place.path ≡ first) × (Some rest ≡ after)
  property_cut place rest is = cut_is 32 word first after cut (path place.path) (Some rest) (path_no_space place.path) is

  pub no_path : ((names : List (List ℕ)) → IsPathWord first names → ⊥) → (edit : Edit) → IsRemovalWord word edit → ⊥
  no_path none (RemoveNode names) is =
      none names (record { is_path = is.0.is_path; is = (node_cut names is.1).0 })
  no_path none (RemoveProperty place) is =
      none place.path (record { is_path = is.0.is_path; is = (property_cut place (shown_text place.name) is.1).0 })
  no_path none (SetProperty place value) is = is
  no_path none (SetField value) is = is
  no_path none (SetPayload image payload) is = is
  no_path none (SetTime time) is = is
  no_path none SetDigests is = is

  pub not_removable : (names : List (List ℕ)) → after ≡ None → IsPathWord first names → (IsRemovable names → ⊥) → (edit : Edit) →
      IsRemovalWord word edit → ⊥
  not_removable names alone is_word none (RemoveNode others) is =
      let same : others ≡ names = one_path others names is.0.is_path.are_names is_word.is_path.are_names
      ((node_cut others is.1).0 ∙ sym is_word.is) in
      none (subst IsRemovable same is.0)
  not_removable names alone is_word none (RemoveProperty place) is =
      let e : Some (shown_text place.name) ≡ None = (property_cut place (shown_text place.name) is.1).1 ∙ alone in absurd cc
  not_removable names alone is_word none (SetProperty place value) is = is
  not_removable names alone is_word none (SetField value) is = is
  not_removable names alone is_word none (SetPayload image payload) is = is
  not_removable names alone is_word none (SetTime time) is = is
  not_removable names alone is_word none SetDigests is = is

  pub no_property_word : (text : List ℕ) → after ≡ Some text → ((name : List ℕ) → IsPropertyWord text name → ⊥) → (edit : Edit) →
      IsRemovalWord word edit → ⊥
  no_property_word text there none (RemoveNode names) is =
      let e : None ≡ Some text = (node_cut names is.1).1 ∙ there in absurd cc
  no_property_word text there none (RemoveProperty place) is =
      let e : Some (shown_text place.name) ≡ Some text = (property_cut place (shown_text place.name) is.1).1 ∙ there in
      none place.name (record { is_name = is.0.is_name; is = cc })
  no_property_word text there none (SetProperty place value) is = is
  no_property_word text there none (SetField value) is = is
  no_property_word text there none (SetPayload image payload) is = is
  no_property_word text there none (SetTime time) is = is
  no_property_word text there none SetDigests is = is

  pub no_place : (text : List ℕ) → after ≡ Some text → (names : List (List ℕ)) → IsPathWord first names → (name : List ℕ) →
      IsPropertyWord text name → (IsPlace (record { path = names; name = name }) → ⊥) → (edit : Edit) → IsRemovalWord word edit → ⊥
  no_place text there names is_word name is_named none (RemoveNode others) is =
      let e : None ≡ Some text = (node_cut others is.1).1 ∙ there in absurd cc
  no_place text there names is_word name is_named none (RemoveProperty place) is =
      let parts = property_cut place (shown_text place.name) is.1 in
      let e : Some (shown_text place.name) ≡ Some text = parts.1 ∙ there in
      let texts : shown_text place.name ≡ text = cc in
      let same : place.path ≡ names = one_path place.path names is.0.is_path.are_names is_word.is_path.are_names
      (parts.0 ∙ sym is_word.is) in
      let named : place.name ≡ name = same_shown place.name name (texts ∙ sym is_named.is) in
      none (subst IsPlace (λ i. record { path = same i; name = named i }) is.0)
  no_place text there names is_word name is_named none (SetProperty place value) is = is
  no_place text there names is_word name is_named none (SetField value) is = is
  no_place text there names is_word name is_named none (SetPayload image payload) is = is
  no_place text there names is_word name is_named none (SetTime time) is = is
  no_place text there names is_word name is_named none SetDigests is = is

-- ---- new values

-- The three parts of a word for a new value.
pub record AreWordParts (place : PropertyPlaceModel) (after : Option (List ℕ)) (first second : List ℕ) (text : Option (List ℕ)) : Type 0
  where
    pub path_is : path place.path ≡ first
    pub name_is : shown_text place.name ≡ second
    pub text_is : after ≡ text

module _ (word first : List ℕ) (after : Option (List ℕ)) (cut : IsCutAt 32 word first after) where
  rest_cut : (place : PropertyPlaceModel) (value : List ℕ) (is : IsSettingWord word place value) →
      (path place.path ≡ first) × (Some (shown_text place.name ++ from_byte 32 is.after) ≡ after)
  rest_cut place value is =
      property_cut word first after cut place (shown_text place.name ++ from_byte 32 is.after)
      (sym (append_assoc (path place.path) (32 ∷ shown_text place.name) (from_byte 32 is.after)) ∙ is.is)

  pub no_rest : after ≡ None → (place : PropertyPlaceModel) (value : List ℕ) → IsSettingWord word place value → ⊥
  no_rest alone place value is =
      let e : Some (shown_text place.name ++ from_byte 32 is.after) ≡ None = (rest_cut place value is).1 ∙ alone in absurd cc

  module _ (rest second : List ℕ) (text : Option (List ℕ)) (there : after ≡ Some rest) (rest_is : IsCutAt 32 rest second text) where
    parts_of : (place : PropertyPlaceModel) (value : List ℕ) (is : IsSettingWord word place value) →
        AreWordParts place is.after first second text
    parts_of place value is =
        let cuts = rest_cut place value is in
        let e : Some (shown_text place.name ++ from_byte 32 is.after) ≡ Some rest = cuts.1 ∙ there in
        let rest_same : shown_text place.name ++ from_byte 32 is.after ≡ rest = cc in
        let more = cut_is 32 rest second text rest_is (shown_text place.name) is.after (shown_no_space place.name) rest_same in
        record { path_is = cuts.0; name_is = more.0; text_is = more.1 }

    pub no_setting_path : ((names : List (List ℕ)) → IsPathWord first names → ⊥) → (place : PropertyPlaceModel) (value : List ℕ) →
        IsSettingWord word place value → ⊥
    no_setting_path none place value is =
        none place.path (record { is_path = is.is_place.is_path; is = (parts_of place value is).path_is })

    pub no_setting_name : ((name : List ℕ) → IsPropertyWord second name → ⊥) → (place : PropertyPlaceModel) (value : List ℕ) →
        IsSettingWord word place value → ⊥
    no_setting_name none place value is =
        none place.name (record { is_name = is.is_place.is_name; is = (parts_of place value is).name_is })

    pub no_setting_place : (names : List (List ℕ)) → IsPathWord first names → (name : List ℕ) → IsPropertyWord second name →
        (IsPlace (record { path = names; name = name }) → ⊥) → (place : PropertyPlaceModel) (value : List ℕ) →
        IsSettingWord word place value → ⊥
    no_setting_place names is_word name is_named none place value is =
        let parts = parts_of place value is in
        let same : place.path ≡ names = one_path place.path names is.is_place.is_path.are_names is_word.is_path.are_names
        (parts.path_is ∙ sym is_word.is) in
        let named : place.name ≡ name = same_shown place.name name (parts.name_is ∙ sym is_named.is) in
        none (subst IsPlace (λ i. record { path = same i; name = named i }) is.is_place)

    pub no_setting_value : ((value : List ℕ) → IsValueAfter text value → ⊥) → (place : PropertyPlaceModel) (value : List ℕ) →
        IsSettingWord word place value → ⊥
    no_setting_value none place value is =
        none value (subst (λ after. IsValueAfter after value) (parts_of place value is).text_is is.is_value)
