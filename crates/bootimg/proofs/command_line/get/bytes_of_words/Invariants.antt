use Rattle.std.proofs.Common.{◌≡◌, take}
use Rattle.bi_common.specs.MadeFields.{bytes_of_names}
use Rattle.bootimg.specs.CommandLine.{texts_of}
use Rattle.bootimg.proofs.command_line.get.bytes_of_words.Given as goal

-- The bytes so far are those of the words so far.
abbrev pub invariant-loop-word : goal.invariant-loop-word
invariant-loop-word l = bytes_of_names l.bytes.items ≡ texts_of (take l.word-index l.words)
