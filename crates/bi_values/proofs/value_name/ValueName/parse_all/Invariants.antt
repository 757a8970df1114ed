use Rattle.std.proofs.Common.{◌≡◌, ◌++◌, ◌-◌, ◌≤◌, drop, flat_map, length}
use Rattle.std.specs.List.{AllByRecursion}
use Rattle.bi_common.specs.MadeFields.{bytes_of_names}
use Rattle.bi_values.specs.ValueNames.{IsValueName, value_name_models, words_of_value}
use Rattle.bi_values.proofs.value_name.ValueName.parse_all.Given as goal

-- The words are those of the names so far and the rest.
abbrev pub invariant-loop-at : goal.invariant-loop-at
invariant-loop-at l =
    AllByRecursion IsValueName (value_name_models l.names.items)
    × (flat_map words_of_value (value_name_models l.names.items) ++ bytes_of_names (drop l.at l.words) ≡ bytes_of_names l.words)
    × (l.at ≤ length l.words)

abbrev pub decreases-loop-at : goal.decreases-loop-at
decreases-loop-at l = length l.words - l.at
