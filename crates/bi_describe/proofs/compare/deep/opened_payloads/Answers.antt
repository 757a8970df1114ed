use Rattle.bi_describe.specs.MadeWords.{ignored_words}
use Rattle.bi_describe.specs.OpenedPayloads.{can_open}
use Rattle.bi_describe.proofs.OpenedPlaces.{word_opens}
use Rattle.bi_describe.proofs.compare.deep.opened_payloads.Goals as goal

pub loop-word-preserved : goal.loop-word-preserved
loop-word-preserved c trees others held other_held place =
    word_opens c.args.words.now c.loop-word.word-index c.word-item.result place _ _ _
    (can_open (ignored_words c.args.words.now) trees others place) c.word-item.is c.loop-word-test.true
    (c.opened_by-place.ensures trees others held other_held place) (c.loop-word.invariant trees others held other_held place)
    (c.in_ok-push_if_there.ensures place)
