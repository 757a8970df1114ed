use Rattle.std.proofs.Common.{◌∙◌, ◌+◌, ap, drop, flat_map, length, map}
use Rattle.std.proofs.lemmas.List.{take_all, take_rest}
use Rattle.bi_values.specs.ValueNames.{value_name_model, value_name_models, words_of_value}
use Rattle.bootimg.specs.CommandLine.{texts_of}
use Rattle.bootimg.proofs.GetWords.{later_words, words_from, words_push}
use Rattle.bootimg.proofs.command_line.get.words_of_names.Goals as goal

-- The words that are left begin with those of the name.
pub first_words-first-requires : goal.first_words-first-requires
first_words-first-requires c =
    let names = c.args.names.now in
    let index = c.loop-index.index in (
      flat_map words_of_value (value_name_models (drop (index + 1) names)),
      ap texts_of (take_rest c.args.words.now c.loop-index.at)
          ∙ c.loop-index.invariant.1 ∙ words_from names index c.index-names-index.result c.loop-index-test.true c.index-names-index.is,
    )

pub loop-index-preserved : goal.loop-index-preserved
loop-index-preserved c =
    let names = c.args.names.now in
    let index = c.loop-index.index in
    let name = c.index-names-index.result in
    let first = c.first_words-first.result in
    let later = later_words c.args.words.now c.loop-index.at c.count-at.result (words_of_value (value_name_model name))
    (flat_map words_of_value (value_name_models (drop (index + 1) names)))
    (c.loop-index.invariant.1 ∙ words_from names index name c.loop-index-test.true c.index-names-index.is)
    (c.count-at.ensures ∙ ap length c.first_words-first.ensures) c.loop-index.invariant.2 in
    rw (c.in_ok-push.ensures.items) (
      words_push c.loop-index.found.items first names index name c.loop-index-test.true c.index-names-index.is c.loop-index.invariant.0
          c.first_words-first.ensures,
      later.0,
      later.1,
    )

pub returns : goal.returns
returns c =
    c.loop-index.invariant.0
    ∙ ap (λ names. map words_of_value (value_name_models names)) (take_all c.loop-index.index c.args.names.now c.loop-index-test.false)
