use Rattle.bi_describe.specs.MadeOptions.{ignoring_model}
use Rattle.bi_describe.specs.MadeWords.{ignored_words}
use Rattle.bi_describe.specs.ReducedMeanings.{meaning_without}
use Rattle.bi_describe.proofs.KeptComparisons.{compared_without}
use Rattle.bi_describe.proofs.compare.ignoring.compare_kept.Goals as goal

pub returns : goal.returns
returns c one other is also =
    let words = ignored_words c.args.options.words.now in
    compared_without (ignoring_model c.args.options) one other c.is_same-same.result _
    (c.is_same-same.ensures (meaning_without words one) (meaning_without words other) is also)
    (c.in_ok-differences.ensures words one other is also)
