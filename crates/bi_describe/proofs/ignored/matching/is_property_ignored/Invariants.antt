use Rattle.std.proofs.Common.{◌≡◌, drop}
use Rattle.bi_common.specs.MadeFields.{bytes_of_names}
use Rattle.bi_describe.specs.Ignoring as words
use Rattle.bi_describe.specs.MadeWords.{ignored_words}
use Rattle.bi_describe.proofs.ignored.matching.is_property_ignored.Given as goal

-- The words that are left decide.
abbrev pub invariant-loop-word : goal.invariant-loop-word
invariant-loop-word l =
    words.is_property_ignored (ignored_words (drop l.word-index l.words)) (bytes_of_names l.names) l.name ≡ words.is_property_ignored
    (ignored_words l.words) (bytes_of_names l.names) l.name
