use Rattle.std.specs.Prelude.{◌≡◌, Bool, true, false}
use Rattle.bi_legacy.specs.Meaning.{LegacyImage}
use Rattle.bi_edit.specs.declared.edit.Edit.{Edit}
use Rattle.bi_edit.specs.Edits.{LacksPart, edited_legacy}

-- What making edits of a legacy image returns.

-- An edit was made, or its part is not there.
abbrev pub IsMadeOfLegacy : (old : LegacyImage) → Edit → (new : LegacyImage) → (found : Bool)
    → Type 0
IsMadeOfLegacy old edit new true = ¬ (LacksPart old edit) × (new ≡ edited_legacy old edit)
IsMadeOfLegacy old edit new false = LacksPart old edit
