use Rattle.std.proofs.Common.{◌≡◌, drop}
use Rattle.std.specs.List.{list_any}
use Rattle.bi_describe.specs.MadeWords.{ignored_words, place_of_payload}
use Rattle.bi_describe.specs.OpenedPayloads.{is_word_inside}
use Rattle.bi_describe.proofs.ignored.inside.is_payload_of_one.Given as goal

-- The words that are left decide.
abbrev pub invariant-loop-word : goal.invariant-loop-word
invariant-loop-word l =
    list_any (is_word_inside (place_of_payload l.payload)) (ignored_words (drop l.word-index l.words))
    ≡ list_any (is_word_inside (place_of_payload l.payload)) (ignored_words l.words)
