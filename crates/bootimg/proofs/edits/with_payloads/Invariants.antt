use Rattle.std.proofs.Common.{◌≡◌, ◌++◌, List, length, take}
use Rattle.bi_edit.specs.declared.edit.Edit.{Edit}
use Rattle.bootimg.specs.EditedImages.{ArePayloadEdits, contents_of}
use Rattle.bootimg.proofs.edits.with_payloads.Given as goal

-- The edits so far give the images of the words so far the contents so far.
abbrev pub invariant-loop-word : goal.invariant-loop-word
invariant-loop-word l =
    (l.index ≡ length l.yielded)
    × ((given : List Edit) × (l.all.items ≡ l.initial.all.items ++ given)
    × ArePayloadEdits l.yielded (contents_of (take (length l.yielded) l.contents)) given)
