use Rattle.std.proofs.Common.{◌≡◌, ◌++◌, List, take}
use Rattle.std.specs.List.{AllZip}
use Rattle.bi_edit.specs.declared.edit.Edit.{Edit}
use Rattle.bi_edit.specs.EditWords.{IsRemovalWord}
use Rattle.bootimg.specs.CommandLine.{texts_of}
use Rattle.bootimg.proofs.command_line.edits.add_removals.Given as goal

-- The removals of the words so far were added.
abbrev pub invariant-loop-word : goal.invariant-loop-word
invariant-loop-word l =
    (added : List Edit) × (l.edits.items ≡ l.initial.edits.items ++ added)
    × AllZip IsRemovalWord (texts_of (take l.word-index l.words)) added
