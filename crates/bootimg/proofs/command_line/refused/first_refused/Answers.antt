use Rattle.std.proofs.Common.{None, Some, get_or}
use Rattle.bootimg.specs.RefusedWords.{given_word}
use Rattle.bootimg.proofs.RefusedFacts.{false_is_refused, found_in_map, found_one, more_taken, no_given_word, none_refused, only}
use Rattle.bootimg.proofs.RefusedFacts.{refused_at}
use Rattle.bootimg.proofs.RefusedFacts.{true_is_taken}
use Rattle.bootimg.proofs.command_line.refused.first_refused.Goals as goal

pub returns-then-not-branch : goal.returns-then-not-branch
returns-then-not-branch c =
    let words = c.args.words.now in
    let index = c.loop-given.given-index in
    let found = given_word (get_or words index no_given_word) in
    found_in_map given_word words (Some found)
    (refused_at (only given_word) words index no_given_word found c.loop-given-test.true c.loop-given.invariant
    (found_one found (false_is_refused _ _ c.in_ok-takes.ensures c.if-not-branch.true)))

pub loop-given-preserved : goal.loop-given-preserved
loop-given-preserved c =
    more_taken (only given_word) c.args.words.now c.loop-given.given-index no_given_word c.loop-given-test.true c.loop-given.invariant
    (true_is_taken _ _ c.in_ok-takes.ensures c.if-not-branch.false, tt)

pub returns : goal.returns
returns c =
    found_in_map given_word c.args.words.now None
    (none_refused (only given_word) c.args.words.now c.loop-given.given-index c.loop-given-test.false c.loop-given.invariant)
