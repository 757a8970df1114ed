use Rattle.std.proofs.Common.{◌≡◌, take}
use Rattle.bi_describe.specs.MadeWords.{ignored_words, place_of_payload}
use Rattle.bi_describe.specs.OpenedPayloads as opened
use Rattle.bi_describe.proofs.ignored.inside.words_inside.Given as goal

-- The words before this one were looked at.
abbrev pub invariant-loop-word : goal.invariant-loop-word
invariant-loop-word l =
    ignored_words l.inside.items ≡ opened.words_inside (place_of_payload l.payload) (ignored_words (take l.word-index l.words))
