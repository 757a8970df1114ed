use Rattle.std.proofs.Common.{◌≡◌, None, take}
use Rattle.bootimg.specs.CommandLine.{texts_of}
use Rattle.bootimg.specs.RefusedWords.{first_near}
use Rattle.bootimg.proofs.command_line.refused.first_within.Given as goal

-- None of the names so far is near.
abbrev pub invariant-loop-name : goal.invariant-loop-name
invariant-loop-name l = first_near l.most (texts_of (take l.name-index l.names)) l.word ≡ None
