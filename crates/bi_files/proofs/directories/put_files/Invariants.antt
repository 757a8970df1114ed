use Rattle.std.proofs.Common.{◌≡◌, map, take}
use Rattle.bi_commands.specs.Payloads.{payload_file}
use Rattle.bi_files.specs.Directories.{AreFilesPut}
use Rattle.bi_files.proofs.directories.put_files.Given as goal

-- The payloads so far were put into the directory.
abbrev pub invariant-loop-payload : goal.invariant-loop-payload
invariant-loop-payload g l =
    (l.made ≡ l.payload-index)
    × AreFilesPut l.directory (map payload_file (take l.payload-index l.payloads)) (g.F.FileSystem.steps l.initial.files)
    (g.F.FileSystem.steps l.files)
