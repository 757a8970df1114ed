use Rattle.std.proofs.Common.{◌≡◌, take}
use Rattle.bi_base.specs.Slices.{bytes_of}
use Rattle.bootimg.specs.OwnTexts.{texts_named}
use Rattle.bootimg.proofs.command_line.texts.texts_named.Given as goal

-- The texts for the name so far.
abbrev pub invariant-loop-named : goal.invariant-loop-named
invariant-loop-named l = bytes_of l.found.items ≡ texts_named (take l.named-index l.texts) l.name
