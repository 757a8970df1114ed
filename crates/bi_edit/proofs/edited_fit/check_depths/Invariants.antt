use Rattle.std.proofs.Common.{drop}
use Rattle.std.specs.List.{AllByRecursion}
use Rattle.bi_edit.specs.Edits.{IsTooDeep}
use Rattle.bi_edit.proofs.edited_fit.check_depths.Given as goal

-- If none of those that are left is too deep, none is.
abbrev pub invariant-loop-edit : goal.invariant-loop-edit
invariant-loop-edit l =
    AllByRecursion (λ edit. ¬ (IsTooDeep l.limits edit)) (drop l.edit-index l.edits)
    → AllByRecursion (λ edit. ¬ (IsTooDeep l.limits edit)) l.edits
