use Rattle.std.specs.Prelude.{◌≡◌, ℕ, List, Some, slice_get, Contains}
use Rattle.std.specs.List.{AllByRecursion}
use Rattle.bi_base.specs.declared.fault.Cause.TheVariants.{TooDeep}
use Rattle.bi_base.specs.declared.fault.Error.TheVariants.{OutOfMemory}
use Rattle.bi_base.specs.declared.fault.Fault.{Fault}
use Rattle.bi_base.specs.Errors.{IsFaultOrNoMemory}
use Rattle.bi_base.specs.Limits.{Limits}
use Rattle.bi_base.specs.Reading.{too_large}
use Rattle.bi_fit.specs.declared.form.Form.{Form}
use Rattle.bi_fit.specs.Documents.{IsTextFault}
use Rattle.bi_legacy.specs.Emitting.{IsEmitFault}
use Rattle.bi_norm.specs.Meaning.{Meaning, OfLegacy, OfFit}
use Rattle.bi_common.specs.PayloadBounds.{IsOverPayloadBound}
use Rattle.bi_edit.specs.declared.edit.Edit.{Edit}
use Rattle.bi_edit.specs.declared.edit.Edit.TheVariants.{SetDigests}
use Rattle.bi_edit.specs.declared.edit_error.EditError.{EditError}
use Rattle.bi_edit.specs.declared.edit_error.EditError.TheVariants as error
use Rattle.bi_edit.specs.Edits.{AllFindIn, IsFirstRefusedIn, IsOfKind, IsTooDeep, meaning_after}

-- Why edits of what a boot image means are refused, in the order of the checks (profile of this
-- project).

-- Each of these edits is of the kind of boot image that means this.
abbrev pub AreOfKind : Meaning → List Edit → Type 0
AreOfKind meaning edits = AllByRecursion (IsOfKind meaning) edits

-- None of these edits adds nodes at a depth over the limit, or would if they were not there.
abbrev pub AreShallow : Limits → List Edit → Type 0
AreShallow limits edits = AllByRecursion (λ edit. ¬ (IsTooDeep limits edit)) edits

-- One of these edits is not of a kind.
pub record HasOther (IsOf : Edit → Type 0) (edits : List Edit) : Type 0 where
  pub edit : Edit
  pub there : Contains edits edit
  pub is_other : ¬ (IsOf edit)

-- The error of finding whether edits are of a kind: one is not, or memory ran out.
abbrev pub IsKindError : (IsOf : Edit → Type 0) → List Edit → EditError → Type 0
IsKindError IsOf edits error.WrongKind = HasOther IsOf edits
IsKindError IsOf edits (error.FindsNothing index) = ⊥
IsKindError IsOf edits (error.Failed failure) = failure ≡ OutOfMemory

-- One of these edits adds nodes at a depth over the limit, or would if they were not there.
pub record HasTooDeep (limits : Limits) (edits : List Edit) : Type 0 where
  pub edit : Edit
  pub there : Contains edits edit
  pub too_deep : IsTooDeep limits edit

-- The edit with this index is the first that finds nothing to remove, no image or no part. Each is
-- of this kind of boot image, and none is too deep.
pub record IsRefusedAt (limits : Limits) (meaning : Meaning) (edits : List Edit) (index : ℕ)
    : Type 0 where
  pub of_kind : AreOfKind meaning edits
  pub shallow : AreShallow limits edits
  pub edit : Edit
  pub there : slice_get edits index ≡ Some edit
  pub is_first : IsFirstRefusedIn meaning edits edit

-- All of these edits can be made of what a boot image means.
pub record CanBeMade (limits : Limits) (meaning : Meaning) (edits : List Edit) : Type 0 where
  pub of_kind : AreOfKind meaning edits
  pub shallow : AreShallow limits edits
  pub all_find : AllFindIn meaning edits

-- One of these edits computes digests, and the payloads after the edits are over the payload bound.
pub record NeedsTooMuch (limits : Limits) (meaning : Meaning) (edits : List Edit) : Type 0 where
  pub has_digests : Contains edits SetDigests
  pub is_over : IsOverPayloadBound limits (meaning_after edits meaning)

-- The fault of writing the normal text of a meaning in a form.
abbrev pub IsNormalTextFault : Limits → Form → Meaning → Fault → Type 0
IsNormalTextFault limits form (OfLegacy image) fault = IsEmitFault limits image fault
IsNormalTextFault limits form (OfFit tree) fault = IsTextFault limits form tree fault

-- The fault of edits of this kind of boot image: one of them is too deep; they can be made, but the
-- payloads are over the payload bound; or the text of the edited meaning has a fault.
pub data IsEditFault (limits : Limits) (form : Form) (meaning : Meaning) (edits : List Edit)
    (fault : Fault) : Type 0 where
  OfDepth : AreOfKind meaning edits → HasTooDeep limits edits
      → fault ≡ record { cause = TooDeep; offset = 0 }
      → IsEditFault limits form meaning edits fault
  OfPayloads : CanBeMade limits meaning edits → NeedsTooMuch limits meaning edits
      → fault ≡ too_large limits.file → IsEditFault limits form meaning edits fault
  OfText : CanBeMade limits meaning edits
      → IsNormalTextFault limits form (meaning_after edits meaning) fault
      → IsEditFault limits form meaning edits fault

-- The error of edits: one of them is of the other kind of boot image; one of them finds nothing;
-- their fault; or memory ran out.
abbrev pub IsEditError : Limits → Form → Meaning → List Edit → EditError → Type 0
IsEditError limits form meaning edits error.WrongKind = HasOther (IsOfKind meaning) edits
IsEditError limits form meaning edits (error.FindsNothing index) =
    IsRefusedAt limits meaning edits index
IsEditError limits form meaning edits (error.Failed failure) =
    IsFaultOrNoMemory (IsEditFault limits form meaning edits) failure
