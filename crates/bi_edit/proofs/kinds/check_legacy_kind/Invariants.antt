use Rattle.std.proofs.Common.{drop}
use Rattle.std.specs.List.{AllByRecursion}
use Rattle.bi_edit.specs.Edits.{IsOfLegacy}
use Rattle.bi_edit.proofs.kinds.check_legacy_kind.Given as goal

-- If those that are left are of this kind, all are.
abbrev pub invariant-loop-edit : goal.invariant-loop-edit
invariant-loop-edit l = AllByRecursion IsOfLegacy (drop l.edit-index l.edits) → AllByRecursion IsOfLegacy l.edits
