use Rattle.std.proofs.Common.{map, take}
use Rattle.bi_commands.specs.Payloads.{payload_file}
use Rattle.bi_files.specs.Directories.{AreFilesRemoved}
use Rattle.bi_files.proofs.directories.remove_all.Given as goal

-- The files of the payloads so far were removed, or that failed.
abbrev pub invariant-loop-payload : goal.invariant-loop-payload
invariant-loop-payload g l =
    AreFilesRemoved l.directory (map payload_file (take l.payload-index l.payloads)) (g.F.FileSystem.steps l.initial.files)
    (g.F.FileSystem.steps l.files)
