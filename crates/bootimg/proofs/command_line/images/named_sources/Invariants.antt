use Rattle.std.proofs.Common.{take}
use Rattle.bootimg.specs.CommandLine.{AreImageSources, texts_of}
use Rattle.bootimg.proofs.command_line.images.named_sources.Given as goal

-- The images so far are those of the arguments so far.
abbrev pub invariant-loop-argument : goal.invariant-loop-argument
invariant-loop-argument l = AreImageSources (texts_of (take l.argument-index l.arguments)) l.sources.items
