use Rattle.std.proofs.Common.{drop}
use Rattle.std.specs.Prelude.{Contains}
use Rattle.bi_edit.specs.declared.edit.Edit.TheVariants.{SetDigests}
use Rattle.bi_edit.proofs.edited_fit.has_digests.Given as goal

-- If one of all computes digests, one of those that are left does.
abbrev pub invariant-loop-edit : goal.invariant-loop-edit
invariant-loop-edit l = Contains l.edits SetDigests → Contains (drop l.edit-index l.edits) SetDigests
