use Rattle.bi_describe.proofs.JsonComparisons.{comparisons_are_json}
use Rattle.bi_describe.proofs.laws.comparisons_are_json.Goals as goal

pub returns : goal.returns
returns c = comparisons_are_json
