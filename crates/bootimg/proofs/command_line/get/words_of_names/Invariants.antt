use Rattle.std.proofs.Common.{◌≡◌, ◌≤◌, drop, flat_map, length, map, take}
use Rattle.bi_values.specs.ValueNames.{value_name_models, words_of_value}
use Rattle.bootimg.specs.CommandLine.{texts_of}
use Rattle.bootimg.specs.ValueWords.{texts_of_value}
use Rattle.bootimg.proofs.command_line.get.words_of_names.Given as goal

-- The words for the names so far were found, and the rest are those for the other names.
abbrev pub invariant-loop-index : goal.invariant-loop-index
invariant-loop-index l =
    (map texts_of_value l.found.items ≡ map words_of_value (value_name_models (take l.index l.names)))
    × (texts_of (drop l.at l.words) ≡ flat_map words_of_value (value_name_models (drop l.index l.names)))
    × (l.at ≤ length l.words)
