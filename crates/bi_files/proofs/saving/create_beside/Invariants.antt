use Rattle.std.proofs.Common.{◌≡◌}
use Rattle.bi_files.specs.Files.{AreNamesTaken}
use Rattle.bi_files.proofs.saving.create_beside.Given as goal

-- Something has each name that was tried so far, and nothing has changed what has which name.
abbrev pub invariant-loop-number : goal.invariant-loop-number
invariant-loop-number g l =
    AreNamesTaken l.name l.number (g.F.FileSystem.steps l.initial.files) (g.F.FileSystem.steps l.files)
    × (g.F.FileSystem.known l.files ≡ g.F.FileSystem.known l.initial.files)
