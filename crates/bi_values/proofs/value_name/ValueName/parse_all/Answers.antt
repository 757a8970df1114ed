use Rattle.bi_values.specs.ValueNames.{value_name_models}
use Rattle.bi_values.proofs.ValueWords.{no_words_at, none_holds, words_at_end}
use Rattle.bi_values.proofs.value_name.ValueName.parse_all.Goals as goal

pub returns-in_default-clause-none : goal.returns-in_default-clause-none
returns-in_default-clause-none c =
    no_words_at c.args.words.now c.loop-at.at (value_name_models c.loop-at.names.items) c.loop-at.invariant.0 c.loop-at.invariant.1
    c.loop-at-test.true (none_holds _ c.in_ok-name.field-0 c.in_default.is c.in_ok-name.ensures.none)

pub returns-clause-some : goal.returns-clause-some
returns-clause-some c =
    words_at_end c.args.words.now c.loop-at.at (value_name_models c.loop-at.names.items) c.loop-at.invariant.0 c.loop-at.invariant.1
    c.loop-at-test.false
