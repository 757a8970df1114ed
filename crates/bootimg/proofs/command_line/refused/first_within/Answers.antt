use Rattle.std.proofs.Common.{◌≡◌, ◌≤◌, ◌<◌, None, subst, sym}
use Rattle.std.proofs.lemmas.List.{take_all}
use Rattle.bootimg.specs.CommandLine.{texts_of}
use Rattle.bootimg.specs.RefusedWords.{first_near}
use Rattle.bootimg.proofs.RefusedFacts.{near_found, near_not_yet}
use Rattle.bootimg.proofs.command_line.refused.first_within.Goals as goal

pub returns-then-branch-most : goal.returns-then-branch-most
returns-then-branch-most c =
    sym (near_found c.args.most c.args.names.now c.args.word.now c.loop-name.name-index c.loop-name-test.true c.loop-name.invariant
    (subst (λ edits. edits ≤ c.args.most) c.in_ok-levenshtein.ensures.value c.if-branch-most.true))

pub loop-name-preserved : goal.loop-name-preserved
loop-name-preserved c =
    near_not_yet c.args.most c.args.names.now c.args.word.now c.loop-name.name-index c.loop-name-test.true c.loop-name.invariant
    (subst (λ edits. c.args.most < edits) c.in_ok-levenshtein.ensures.value c.if-branch-most.false)

pub returns : goal.returns
returns c =
    sym (subst (λ l. first_near c.args.most (texts_of l) c.args.word.now ≡ None)
    (take_all c.loop-name.name-index c.args.names.now c.loop-name-test.false) c.loop-name.invariant)
