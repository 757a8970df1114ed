use Rattle.std.proofs.Common.{map, take}
use Rattle.bi_blob.specs.NameSets.{HoldsNames}
use Rattle.bi_blob.specs.Tree.{AreDistinct}
use Rattle.bootimg.specs.CommandLine.{texts_of}
use Rattle.bootimg.specs.ConfigurationWords.{name_of_word}
use Rattle.bootimg.proofs.command_line.texts.have_distinct_names.Given as goal

-- The set has the names so far, which are distinct.
abbrev pub invariant-loop-word : goal.invariant-loop-word
invariant-loop-word l = record {
  names : HoldsNames l.names (map name_of_word (texts_of (take l.word-index l.words)));
  distinct : AreDistinct (map name_of_word (texts_of (take l.word-index l.words)));
}
