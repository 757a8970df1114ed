use Rattle.std.proofs.Common.{◌≡◌, take}
use Rattle.bootimg.specs.EditedImages.{contents_of}
use Rattle.bootimg.specs.Runs.{ArePayloadsRead}
use Rattle.bootimg.proofs.edits.read_payloads.Given as goal

-- The files of the payloads so far were read.
abbrev pub invariant-loop-word : goal.invariant-loop-word
invariant-loop-word g l =
    ArePayloadsRead (g.F.FileSystem.known l.initial.files) l.limits (take l.word-index l.words) (contents_of l.contents.items)
    (g.F.FileSystem.steps l.initial.files) (g.F.FileSystem.steps l.files)
    × (g.F.FileSystem.known l.files ≡ g.F.FileSystem.known l.initial.files)
