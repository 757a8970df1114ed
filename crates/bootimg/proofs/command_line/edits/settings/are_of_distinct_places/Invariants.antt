use Rattle.std.proofs.Common.{List, map, take}
use Rattle.std.specs.List.{AllZip}
use Rattle.bi_blob.specs.NameSets.{HoldsNames}
use Rattle.bi_blob.specs.Tree.{AreDistinct}
use Rattle.bi_edit.specs.declared.edit.Edit.{Edit}
use Rattle.bootimg.specs.CommandLine.{texts_of}
use Rattle.bootimg.specs.EditOptions.{IsSetWord, set_place}
use Rattle.bootimg.proofs.command_line.edits.settings.are_of_distinct_places.Given as goal

-- The set has the places so far, which are distinct, whatever the edits of the words are.
abbrev pub invariant-loop-word : goal.invariant-loop-word
invariant-loop-word l =
    (edits : List Edit) → AllZip IsSetWord (texts_of l.words) edits
    → HoldsNames l.places (map set_place (take l.word-index edits)) × AreDistinct (map set_place (take l.word-index edits))
