use Rattle.std.specs.Prelude.{◌≡◌, ◌∷◌, ℕ, List, [], codes, Vec}
use Rattle.std.specs.Borrow.{Bor}
use Rattle.std.specs.declared.alloc.Global.{Global}
use Rattle.bi_edit.specs.declared.edit.Edit.{Edit}
use Rattle.bi_edit.specs.declared.edit.FieldValue.{FieldValue}
use Rattle.bi_edit.specs.declared.edit.FieldValue.TheVariants as field
use Rattle.bi_edit.specs.declared.edit_error.EditError.TheVariants as error
use Rattle.bi_edit.specs.declared.form_choice.FormChoice.TheVariants as choice
use Rattle.bi_fit.specs.declared.form.Form.TheVariants.{External}
use Rattle.bi_norm.specs.Kinds.{BeginsAs}
use Rattle.bi_norm.specs.declared.kind.Kind.TheVariants as kind
use Rattle.bootimg.specs.CommandLine.{AsksForEdits, AsksForNoEdit, IsFormChoice, NoneIs}
use Rattle.bootimg.specs.EditOptions.{AreSetWords, IsFieldWord}
use Rattle.bootimg.specs.EditedImages.{IsFailureOfEditing}
use Rattle.bootimg.specs.KnownRequests.{HoldsFor, IsOnlyOne}
use Rattle.bootimg.specs.declared.failure.Failure.{Failure}
use Rattle.bootimg.specs.declared.failure.Failure.TheVariants.{NoImage, NoPart, NothingToRemove}
use Rattle.bootimg.specs.declared.failure.Failure.TheVariants.{WrongKind}

-- Small words and options of `update`, by which a reader can judge the definitions.

-- Words for new values of fields, and others.
pub record FieldWordsAreKnown : Type 0 where
  pub name : (name : Vec ℕ Global) → name.items ≡ codes "a b"
      → IsFieldWord (codes "name a%20b") (field.Name name)
  pub no_name : (name : Vec ℕ Global) → name.items ≡ []
      → IsFieldWord (codes "name -") (field.Name name)
  pub load : IsFieldWord (codes "load 0x9000") (field.Load 36864)
  pub time : IsFieldWord (codes "time 5") (field.Time 5)
  pub os : IsFieldWord (codes "os linux") (field.Os 5)
  pub no_type : (value : FieldValue) → ¬ (IsFieldWord (codes "type kernel") value)
  pub no_value : (value : FieldValue) → ¬ (IsFieldWord (codes "load") value)
  pub of_another_field : (value : FieldValue) → ¬ (IsFieldWord (codes "os arm") value)
  pub twice : (edits : List Edit)
      → ¬ (AreSetWords (codes "load 1" ∷ codes "load 2" ∷ []) edits)

-- What is asked for, and the form.
pub record EditOptionsAreKnown : Type 0 where
  pub no_edit : HoldsFor (codes "update --external") (codes "update") AsksForNoEdit
  pub time : HoldsFor (codes "update --time 5") (codes "update") AsksForEdits
  pub hashes : HoldsFor (codes "update --hashes") (codes "update") AsksForEdits
  pub removal : HoldsFor (codes "update --remove /a") (codes "update") AsksForEdits
  pub setting : HoldsFor (codes "update --set /a") (codes "update") AsksForEdits
  pub payload : HoldsFor (codes "update --payload a") (codes "update") AsksForEdits
  pub form : HoldsFor (codes "update --keep-form") (codes "update") AsksForEdits
  pub kept : HoldsFor (codes "update --keep-form") (codes "update")
      (λ options. IsOnlyOne (IsFormChoice options) choice.Keep)
  pub external : HoldsFor (codes "update --remove /a --external") (codes "update")
      (λ options. IsOnlyOne (IsFormChoice options) (choice.Given External))
  pub both : HoldsFor (codes "update --keep-form --external") (codes "update")
      (λ options. NoneIs (IsFormChoice options))
  pub aligned : HoldsFor (codes "update --keep-form --align 4") (codes "update")
      (λ options. NoneIs (IsFormChoice options))

-- The failure for an edit that finds nothing: of a removal with its word, or else of a payload.
pub record EditFailuresAreKnown : Type 0 where
  pub second : (one other : Bor (List ℕ)) (file : List ℕ) (failure : Failure)
      → IsFailureOfEditing (one ∷ other ∷ []) file (error.FindsNothing 1) failure
      → failure ≡ NothingToRemove other
  pub no_part : (word : Bor (List ℕ)) (file : List ℕ) (failure : Failure)
      → BeginsAs file kind.Legacy
      → IsFailureOfEditing (word ∷ []) file (error.FindsNothing 1) failure → failure ≡ NoPart
  pub no_image : (file : List ℕ) (failure : Failure) → ¬ (BeginsAs file kind.Legacy)
      → IsFailureOfEditing [] file (error.FindsNothing 0) failure → failure ≡ NoImage
  pub wrong_kind : (words : List (Bor (List ℕ))) (file : List ℕ) (failure : Failure)
      → IsFailureOfEditing words file error.WrongKind failure → failure ≡ WrongKind
