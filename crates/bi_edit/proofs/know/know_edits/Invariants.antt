use Rattle.std.proofs.Common.{drop}
use Rattle.std.specs.List.{AllByRecursion}
use Rattle.bi_edit.specs.EditLaws.{IsEditOfBytes}
use Rattle.bi_edit.proofs.know.know_edits.Given as goal

-- If those that are left are edits of bytes, so are all.
abbrev pub invariant-loop-edit : goal.invariant-loop-edit
invariant-loop-edit l = AllByRecursion IsEditOfBytes (drop l.edit-index l.edits) → AllByRecursion IsEditOfBytes l.edits
