use Rattle.std.specs.Prelude.{◌≡◌, ℕ, ⊤, Bool, true, false, List, Some, slice_get}
use Rattle.bi_blob.specs.Tree.{Root, PropertyMap}
use Rattle.bi_edit.specs.declared.applying.ApplyError.{ApplyError}
use Rattle.bi_edit.specs.declared.applying.ApplyError.TheVariants as error
use Rattle.bi_edit.specs.declared.edit.Edit.{Edit}
use Rattle.bi_edit.specs.Edits.{FindsNothing, edited_root}

-- What making edits of a plain tree returns.

-- An edit was made, or it finds nothing.
abbrev pub IsDone : (old : Root PropertyMap) → Edit → (new : Root PropertyMap) → (found : Bool)
    → Type 0
IsDone old edit new true = (FindsNothing old edit → ⊥) × (new ≡ edited_root old edit)
IsDone old edit new false = FindsNothing old edit

-- The error of an edit with an index: it finds nothing, or memory ran out.
abbrev pub IsErrorAt : (index : ℕ) → (IsRefused : Type 0) → ApplyError → Type 0
IsErrorAt index IsRefused (error.FindsNothing at) = (at ≡ index) × IsRefused
IsErrorAt index IsRefused error.OutOfMemory = ⊤

-- The error of edits: one of them, which has the index, is refused, or memory ran out.
abbrev pub IsApplyError : (IsRefused : Edit → Type 0) → List Edit → ApplyError → Type 0
IsApplyError IsRefused edits (error.FindsNothing index) =
    (refused : Edit) × (slice_get edits index ≡ Some refused) × IsRefused refused
IsApplyError IsRefused edits error.OutOfMemory = ⊤
