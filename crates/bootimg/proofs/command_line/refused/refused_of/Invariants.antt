use Rattle.std.proofs.Common.{flat_map, take}
use Rattle.std.specs.List.{AllByRecursion}
use Rattle.bootimg.specs.RefusedWords.{option_text_model}
use Rattle.bootimg.proofs.RefusedFacts.{IsTakenThere, given_to, only}
use Rattle.bootimg.proofs.command_line.refused.refused_of.Given as goal

-- The words so far are taken.
abbrev pub invariant-loop-word : goal.invariant-loop-word
invariant-loop-word l =
    AllByRecursion IsTakenThere (flat_map (only (given_to (option_text_model l.option))) (take l.word-index l.words))
