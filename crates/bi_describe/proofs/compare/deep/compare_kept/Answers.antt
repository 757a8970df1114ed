use Rattle.bi_describe.specs.MadeInsides.{is_one_of_places}
use Rattle.bi_describe.specs.MadeOptions.{ignoring_model}
use Rattle.bi_describe.specs.MadeWords.{ignored_words}
use Rattle.bi_describe.proofs.DeepComparisons.{compared_inside}
use Rattle.bi_describe.proofs.compare.deep.compare_kept.Goals as goal

pub returns : goal.returns
returns c one other kept other_kept are =
    let words = ignored_words c.args.options.words.now in
    compared_inside (ignoring_model c.args.options) one other (is_one_of_places c.args.opened.now) c.is_same-same.result _ are
    (c.is_same-same.ensures words one other kept other_kept are) (c.in_ok-differences.ensures words one other kept other_kept)
