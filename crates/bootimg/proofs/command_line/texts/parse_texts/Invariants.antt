use Rattle.std.proofs.Common.{List, ℕ, take}
use Rattle.bi_blob.specs.NameSets.{HoldsNames}
use Rattle.bootimg.specs.CommandLine.{texts_of}
use Rattle.bootimg.specs.OwnTexts.{AreNamedTexts}
use Rattle.bootimg.proofs.command_line.texts.parse_texts.Given as goal

-- The words so far are the texts so far.
abbrev pub invariant-loop-word : goal.invariant-loop-word
invariant-loop-word l =
    (held : List (List ℕ)) → HoldsNames l.fn.names held → AreNamedTexts held (texts_of (take l.word-index l.words)) l.texts.items
