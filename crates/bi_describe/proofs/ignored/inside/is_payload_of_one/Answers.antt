use Rattle.std.proofs.Common.{sym, ◌∙◌}
use Rattle.bi_describe.specs.MadeWords.{place_of_payload}
use Rattle.bi_describe.specs.OpenedPayloads.{is_word_inside}
use Rattle.bi_describe.proofs.MatchingWords.{any_found}
use Rattle.bi_describe.proofs.ignored.inside.is_payload_of_one.Goals as goal

pub returns-then-is_word_inside : goal.returns-then-is_word_inside
returns-then-is_word_inside c =
    any_found (is_word_inside (place_of_payload c.args.payload.now)) c.args.words.now c.loop-word.word-index c.word-item.result _
    c.word-item.is
    c.loop-word-test.true (sym c.is_word_inside.ensures ∙ c.if-is_word_inside.true) c.loop-word.invariant
