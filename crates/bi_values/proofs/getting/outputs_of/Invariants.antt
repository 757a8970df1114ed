use Rattle.std.proofs.Common.{◌≡◌, map, take}
use Rattle.bi_norm.specs.Reading.{meaning_of}
use Rattle.bi_values.specs.ValueNames.{value_name_models}
use Rattle.bi_values.specs.ValueOutputs.{result_of_output}
use Rattle.bi_values.specs.ValueResults.{value_results}
use Rattle.bi_values.proofs.getting.outputs_of.Given as goal

-- There is an output for each name before this one.
abbrev pub invariant-loop-index : goal.invariant-loop-index
invariant-loop-index l =
    value_results l.form (meaning_of l.image) (value_name_models (take l.index l.names)) ≡ map result_of_output l.outputs.items
