use Rattle.std.proofs.Common.{◌≡◌, ◌++◌, length}
use Rattle.std.specs.List.{AllByRecursion}
use Rattle.bi_values.specs.NameWords.{IsEmptyOrBeginsWithSlash, steps_text}
use Rattle.bi_values.specs.ValueNames.{IsChildNameOfBytes, names_of_path}
use Rattle.bi_values.proofs.paths.names_shown_as.Given as goal

-- The text is that of the names so far and the rest, which is empty or begins with a slash.
abbrev pub invariant-loop-step : goal.invariant-loop-step
invariant-loop-step l =
    AllByRecursion IsChildNameOfBytes (names_of_path l.names.items)
    × (steps_text (names_of_path l.names.items) ++ l.rest ≡ l.text)
    × IsEmptyOrBeginsWithSlash l.rest

abbrev pub decreases-loop-step : goal.decreases-loop-step
decreases-loop-step l = length l.rest
