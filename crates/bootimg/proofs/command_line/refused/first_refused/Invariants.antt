use Rattle.std.proofs.Common.{flat_map, take}
use Rattle.std.specs.List.{AllByRecursion}
use Rattle.bootimg.specs.RefusedWords.{given_word}
use Rattle.bootimg.proofs.RefusedFacts.{IsTakenThere, only}
use Rattle.bootimg.proofs.command_line.refused.first_refused.Given as goal

-- The words so far are taken.
abbrev pub invariant-loop-given : goal.invariant-loop-given
invariant-loop-given l = AllByRecursion IsTakenThere (flat_map (only given_word) (take l.given-index l.words))
