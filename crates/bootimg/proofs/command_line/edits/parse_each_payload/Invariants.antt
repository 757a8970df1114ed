use Rattle.std.proofs.Common.{take}
use Rattle.std.specs.List.{AllZip}
use Rattle.bootimg.specs.CommandLine.{texts_of}
use Rattle.bootimg.specs.EditOptions.{IsNewPayload}
use Rattle.bootimg.proofs.command_line.edits.parse_each_payload.Given as goal

-- The words so far are the payloads so far.
abbrev pub invariant-loop-word : goal.invariant-loop-word
invariant-loop-word l = AllZip IsNewPayload (texts_of (take l.word-index l.words)) l.payloads.items
