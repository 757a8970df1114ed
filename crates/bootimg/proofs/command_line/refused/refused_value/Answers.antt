use Rattle.std.proofs.Common.{None, ◌∙◌, subst, sym}
use Rattle.bootimg.specs.CommandLine.{values_of}
use Rattle.bootimg.specs.RefusedWords.{FindsFirst}
use Rattle.bootimg.proofs.RefusedFacts.{first_of_options, more_options, no_option, none_refused, words_of_all, words_of_option}
use Rattle.bootimg.proofs.command_line.refused.refused_value.Goals as goal

pub returns-then-is_some : goal.returns-then-is_some
returns-then-is_some c =
    first_of_options (values_of c.args.options.now) c.taking_options-table.result.now c.loop-option.option-index no_option
    c.in_ok-found.found _ c.taking_options-table.ensures c.loop-option-test.true c.all_values-words.ensures c.loop-option.invariant
    c.in_ok-found.ensures (sym c.is_some.ensures ∙ c.if-is_some.true)

pub loop-option-preserved : goal.loop-option-preserved
loop-option-preserved c =
    more_options (values_of c.args.options.now) c.taking_options-table.result.now c.loop-option.option-index no_option
    c.in_ok-found.found _ c.loop-option-test.true c.all_values-words.ensures c.loop-option.invariant c.in_ok-found.ensures
    (sym c.is_some.ensures ∙ c.if-is_some.false)

pub returns : goal.returns
returns c =
    let values = values_of c.args.options.now in
    let table = c.taking_options-table.result.now in
    subst (λ l. FindsFirst l None) (words_of_all values table c.taking_options-table.ensures)
    (none_refused (words_of_option values) table c.loop-option.option-index c.loop-option-test.false c.loop-option.invariant)
