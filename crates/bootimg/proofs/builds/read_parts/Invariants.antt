use Rattle.std.proofs.Common.{◌≡◌, take}
use Rattle.bootimg.specs.ReadParts.{WereRead}
use Rattle.bootimg.proofs.builds.read_parts.Given as goal

-- The parts so far were read.
abbrev pub invariant-loop-source : goal.invariant-loop-source
invariant-loop-source g l =
    WereRead (g.F.FileSystem.known l.initial.files) l.limits (take l.source-index l.sources) l.read.items
    (g.F.FileSystem.steps l.initial.files) (g.F.FileSystem.steps l.files)
    × (g.F.FileSystem.known l.files ≡ g.F.FileSystem.known l.initial.files)
