use Rattle.std.specs.Prelude.{◌≡◌, ℕ, ◌<◌, List, Contains}
use Rattle.bi_base.specs.declared.fault.Error.TheVariants.{OutOfMemory}
use Rattle.bi_base.specs.Limits.{Limits}
use Rattle.bi_blob.specs.Tree.{Root, PropertyMap}
use Rattle.bi_common.specs.PayloadBounds.{payloads_length}
use Rattle.bi_fit.specs.declared.form.Form.TheVariants.{Embedded}
use Rattle.bi_fit.specs.Content.{FitModel}
use Rattle.bi_fit.specs.ImageTree.{ImageTree}
use Rattle.bi_fit.specs.Laws.{IsAcceptedAs}
use Rattle.bi_fit.specs.Reading.{IsReadFit}
use Rattle.bi_fit.specs.Text.{fit_text}
use Rattle.bi_norm.specs.Meaning.{OfFit}
use Rattle.bi_plain.specs.Plain.{plain_payloads}
use Rattle.bi_edit.specs.declared.applying.ApplyError.{ApplyError}
use Rattle.bi_edit.specs.declared.applying.ApplyError.TheVariants as apply_error
use Rattle.bi_edit.specs.declared.edit.Edit.{Edit}
use Rattle.bi_edit.specs.declared.edit.Edit.TheVariants.{SetDigests}
use Rattle.bi_edit.specs.declared.edit_error.EditError.{EditError}
use Rattle.bi_edit.specs.declared.edit_error.EditError.TheVariants as error
use Rattle.bi_edit.specs.EditRefusals.{CanBeMade, NeedsTooMuch}
use Rattle.bi_edit.specs.Edits.{edited_tree}

-- What editing a flattened image tree returns.

-- An error of making edits, as one of editing a boot image.
abbrev pub edit_error_of : ApplyError → EditError
edit_error_of (apply_error.FindsNothing index) = error.FindsNothing index
edit_error_of apply_error.OutOfMemory = error.Failed OutOfMemory

-- The flattened image tree was read under these limits.
abbrev pub WasReadWithin : Limits → FitModel → Type 0
WasReadWithin limits content = (file : List ℕ) × IsReadFit limits file content

-- The text of a flattened image tree after edits in the form Embedded. Under the limits it is
-- accepted and means the edited tree.
pub record IsEditedText (limits : Limits) (tree : ImageTree) (edits : List Edit) (text : List ℕ)
    : Type 0 where
  pub can : CanBeMade limits (OfFit tree) edits
  pub within : ¬ (NeedsTooMuch limits (OfFit tree) edits)
  pub is_text : text ≡ fit_text Embedded (edited_tree edits tree)
  pub accepted : IsAcceptedAs limits text (edited_tree edits tree)

-- One of these edits computes digests, and the payloads of a plain tree are together longer than
-- the limit.
pub record HasLongPayloads (limits : Limits) (root : Root PropertyMap) (edits : List Edit) : Type 0
  where
    pub has_digests : Contains edits SetDigests
    pub is_over : limits.file < payloads_length (plain_payloads root)
