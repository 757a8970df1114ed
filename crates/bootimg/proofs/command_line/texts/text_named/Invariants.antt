use Rattle.std.proofs.Common.{◌≡◌, drop}
use Rattle.bootimg.specs.OwnTexts.{text_named}
use Rattle.bootimg.proofs.command_line.texts.text_named.Given as goal

-- No text before this one is for the name.
abbrev pub invariant-loop-named : goal.invariant-loop-named
invariant-loop-named l = text_named (drop l.named-index l.texts) l.name ≡ text_named l.texts l.name
