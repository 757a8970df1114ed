use Rattle.std.proofs.Common.{flat_map, take}
use Rattle.std.specs.List.{AllByRecursion}
use Rattle.bootimg.specs.CommandLine.{values_of}
use Rattle.bootimg.proofs.RefusedFacts.{IsTakenThere, words_of_option}
use Rattle.bootimg.proofs.command_line.refused.refused_value.Given as goal

-- The words of the options so far are taken.
abbrev pub invariant-loop-option : goal.invariant-loop-option
invariant-loop-option l =
    AllByRecursion IsTakenThere (flat_map (words_of_option (values_of l.options)) (take l.option-index l.table))
