use Rattle.std.proofs.Common.{◌≡◌, take}
use Rattle.bi_common.specs.MadeFields.{bytes_of_names}
use Rattle.bi_describe.specs.IgnoredWords.{AreWordsOfValues}
use Rattle.bi_describe.specs.MadeWords.{ignored_words}
use Rattle.bi_describe.proofs.ignored.Ignored.parse_all.Given as goal

-- These are the words of the values so far.
abbrev pub invariant-loop-value : goal.invariant-loop-value
invariant-loop-value l = record {
  counted : l.index ≡ l.value-index;
  words : AreWordsOfValues (take l.value-index (bytes_of_names l.values)) (ignored_words l.all.items);
}
