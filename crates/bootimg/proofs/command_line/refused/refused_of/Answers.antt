use Rattle.std.proofs.Common.{None, Some, get_or, subst, sym}
use Rattle.bootimg.specs.CommandLine.{texts_of}
use Rattle.bootimg.specs.RefusedWords.{FindsFirst, option_text_model, place_model, words_given}
use Rattle.bootimg.proofs.RefusedFacts.{false_is_refused, found_in_map, found_one, given_to, given_words_of, more_taken, no_lent_word}
use Rattle.bootimg.proofs.RefusedFacts.{none_refused, only, refused_at, true_is_taken}
use Rattle.bootimg.proofs.command_line.refused.refused_of.Goals as goal

pub returns-then-not-branch : goal.returns-then-not-branch
returns-then-not-branch c =
    let option = option_text_model c.args.option.now in
    let words = c.args.words.now in
    let index = c.loop-word.word-index in
    let found = given_to option (get_or words index no_lent_word) in
    subst (λ place. FindsFirst (words_given option (texts_of words)) (Some (record found { place = place_model place })))
    (sym c.place.ensures)
    (subst (λ l. FindsFirst l (Some found)) (given_words_of option words)
    (found_in_map (given_to option) words (Some found)
    (refused_at (only (given_to option)) words index no_lent_word found c.loop-word-test.true c.loop-word.invariant
    (found_one found (false_is_refused _ _ c.in_ok-takes.ensures c.if-not-branch.true)))))

pub loop-word-preserved : goal.loop-word-preserved
loop-word-preserved c =
    let option = option_text_model c.args.option.now in
    more_taken (only (given_to option)) c.args.words.now c.loop-word.word-index no_lent_word c.loop-word-test.true c.loop-word.invariant
    (true_is_taken _ _ c.in_ok-takes.ensures c.if-not-branch.false, tt)

pub returns : goal.returns
returns c =
    let option = option_text_model c.args.option.now in
    let words = c.args.words.now in
    subst (λ l. FindsFirst l None) (given_words_of option words)
    (found_in_map (given_to option) words None
    (none_refused (only (given_to option)) words c.loop-word.word-index c.loop-word-test.false c.loop-word.invariant))
