use Rattle.std.proofs.Common.{◌≡◌, ◌++◌, List, take}
use Rattle.std.specs.List.{AllZip}
use Rattle.bi_edit.specs.declared.edit.Edit.{Edit}
use Rattle.bootimg.specs.CommandLine.{texts_of}
use Rattle.bootimg.specs.EditOptions.{IsSetWord}
use Rattle.bootimg.proofs.command_line.edits.settings.add_each_setting.Given as goal

-- The new values of the words so far were added.
abbrev pub invariant-loop-word : goal.invariant-loop-word
invariant-loop-word l =
    (added : List Edit) × (l.edits.items ≡ l.initial.edits.items ++ added)
    × AllZip IsSetWord (texts_of (take l.word-index l.words)) added
