use Rattle.std.proofs.Common.{map}
use Rattle.bi_describe.specs.KeptImages.{numbered_part}
use Rattle.bi_describe.specs.MadeWords.{ignored_words}
use Rattle.bi_describe.proofs.PartLists.{part_next, no_parts_left}
use Rattle.bi_describe.proofs.describe.kept.legacy.kept_parts.Goals as goal

pub loop-index-preserved : goal.loop-index-preserved
loop-index-preserved c =
    part_next (ignored_words c.args.words.now) c.args.parts.now c.loop-index.index c.index-parts-index.result
    (map numbered_part c.loop-index.kept.items) _ _ c.index-parts-index.is c.loop-index-test.true c.in_ok-push_if_kept.ensures
    c.loop-index.invariant

pub returns : goal.returns
returns c =
    no_parts_left (ignored_words c.args.words.now) c.args.parts.now c.loop-index.index _ (map numbered_part c.loop-index.kept.items)
    c.loop-index-test.false c.loop-index.invariant
