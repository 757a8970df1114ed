use Rattle.std.proofs.Common.{map, take}
use Rattle.bi_blob.specs.NameSets.{HoldsNames}
use Rattle.bootimg.specs.CommandLine.{texts_of}
use Rattle.bootimg.specs.ConfigurationWords.{name_of_word}
use Rattle.bootimg.proofs.command_line.texts.names_of_words.Given as goal

-- The set has the names so far.
abbrev pub invariant-loop-word : goal.invariant-loop-word
invariant-loop-word l = HoldsNames l.names (map name_of_word (texts_of (take l.word-index l.words)))
