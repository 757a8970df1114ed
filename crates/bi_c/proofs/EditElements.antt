use Rattle.std.proofs.Common.{◌≡◌, ◌≤◌, ℕ, List, [], ◌∷◌, ◌++◌, Option, None, Some, Result, Ok, Err, IfOk, lit≤, arith}
use Rattle.std.specs.Prelude.{IfNone}
use Rattle.std.specs.List.{AllZip}
use Rattle.bi_base.specs.declared.fault.Error.{Error}
use Rattle.bi_edit.specs.declared.edit.Edit.{Edit}
use Rattle.bi_edit.specs.declared.edit.Edit.TheVariants.{RemoveNode, RemoveProperty, SetProperty, SetField, SetPayload, SetTime, SetDigests}
use Rattle.bi_edit.specs.declared.edit.FieldValue.{FieldValue}
use Rattle.bi_edit.specs.declared.edit.FieldValue.TheVariants as field
use Rattle.bi_edit.specs.EditWords.{IsRemovalWord}
use Rattle.bi_c.specs.EditCalls.{GivesPayload, IsBadElement, IsEditOf, IsSetting, kind_of_field}
use Rattle.bi_c.specs.PieceBuilding.{bytes_of_piece}
use Rattle.bi_c.specs.declared.edits.EditElement.{EditElement}

-- The edit that an element is for, by its kind.

-- What follows where a word is for no edit.
pub no_edit_by : (P Q : Type 0) (result : Result (Option Edit) Error) → (P → Q) → IfOk result (λ found. IfNone found P) →
    IfOk result (λ found. IfNone found Q)
no_edit_by P Q (Ok None) so none = so none
no_edit_by P Q (Ok (Some edit)) so none = tt
no_edit_by P Q (Err error) so none = tt

-- Fields have kinds of their own.
field_kind : (value : FieldValue) → 3 ≤ kind_of_field value
field_kind (field.Time time) = lit≤ tt
field_kind (field.Name name) = lit≤ tt
field_kind (field.Load load) = lit≤ tt
field_kind (field.Entry entry) = lit≤ tt
field_kind (field.Os code) = lit≤ tt
field_kind (field.Arch code) = lit≤ tt
field_kind (field.Compression code) = lit≤ tt

module _ (input : List ℕ) (element : EditElement) where
  -- Elements of the first kind are for removals,
  pub removal_edit : (edit : Edit) → element.kind ≡ 0 → IsRemovalWord (bytes_of_piece input element.word) edit →
      IsEditOf input element edit
  removal_edit (RemoveNode path) kind is = record { is_kind = kind; has_values = is }
  removal_edit (RemoveProperty place) kind is = record { is_kind = kind; has_values = is }
  removal_edit (SetProperty place value) kind is = absurd is
  removal_edit (SetField value) kind is = absurd is
  removal_edit (SetPayload image payload) kind is = absurd is
  removal_edit (SetTime time) kind is = absurd is
  removal_edit SetDigests kind is = absurd is

  pub no_removal_edit : element.kind ≡ 0 → ((edit : Edit) → IsRemovalWord (bytes_of_piece input element.word) edit → ⊥) →
      IsBadElement input element
  no_removal_edit kind none (RemoveNode path) is = none (RemoveNode path) is.has_values
  no_removal_edit kind none (RemoveProperty place) is = none (RemoveProperty place) is.has_values
  no_removal_edit kind none (SetProperty place value) is = omega (arith, kind, is.is_kind)
  no_removal_edit kind none (SetField value) is = omega (arith, kind, is.is_kind, field_kind value)
  no_removal_edit kind none (SetPayload image payload) is = omega (arith, kind, is.is_kind)
  no_removal_edit kind none (SetTime time) is = omega (arith, kind, is.is_kind)
  no_removal_edit kind none SetDigests is = omega (arith, kind, is.is_kind)

  -- those of the second for new values,
  pub no_setting_edit : element.kind ≡ 1 → ((edit : Edit) → ¬ (IsSetting (bytes_of_piece input element.word) edit)) →
      IsBadElement input element
  no_setting_edit kind none (SetProperty place value) is = none (SetProperty place value) is.has_values
  no_setting_edit kind none (RemoveNode path) is = omega (arith, kind, is.is_kind)
  no_setting_edit kind none (RemoveProperty place) is = omega (arith, kind, is.is_kind)
  no_setting_edit kind none (SetField value) is = omega (arith, kind, is.is_kind, field_kind value)
  no_setting_edit kind none (SetPayload image payload) is = omega (arith, kind, is.is_kind)
  no_setting_edit kind none (SetTime time) is = omega (arith, kind, is.is_kind)
  no_setting_edit kind none SetDigests is = omega (arith, kind, is.is_kind)

  -- and those of the third for payloads.
  pub no_payload_edit : element.kind ≡ 2 →
      ((edit : Edit) → ¬ (GivesPayload (bytes_of_piece input element.word) (bytes_of_piece input element.payload) edit)) →
      IsBadElement input element
  no_payload_edit kind none (SetPayload image payload) is = none (SetPayload image payload) is.has_values
  no_payload_edit kind none (RemoveNode path) is = omega (arith, kind, is.is_kind)
  no_payload_edit kind none (RemoveProperty place) is = omega (arith, kind, is.is_kind)
  no_payload_edit kind none (SetProperty place value) is = omega (arith, kind, is.is_kind)
  no_payload_edit kind none (SetField value) is = omega (arith, kind, is.is_kind, field_kind value)
  no_payload_edit kind none (SetTime time) is = omega (arith, kind, is.is_kind)
  no_payload_edit kind none SetDigests is = omega (arith, kind, is.is_kind)

-- An element that is added to a list of elements adds one edit.
pub one_edit_added : (input : List ℕ) (elements : List EditElement) (edits : List Edit) (element : EditElement) (edit : Edit) →
    AllZip (IsEditOf input) elements edits → IsEditOf input element edit →
    AllZip (IsEditOf input) (elements ++ element ∷ []) (edits ++ edit ∷ [])
one_edit_added input [] [] element edit are is = (is, tt)
one_edit_added input [] (first ∷ edits) element edit are is = absurd are
one_edit_added input (first ∷ elements) [] element edit are is = absurd are
one_edit_added input (first ∷ elements) (other ∷ edits) element edit are is =
    (are.0, one_edit_added input elements edits element edit are.1 is)
