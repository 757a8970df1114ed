use Rattle.bi_describe.proofs.DeepFacts.{nothing_inside_is_description}
use Rattle.bi_describe.proofs.laws.nothing_inside_is_description.Goals as goal

pub returns : goal.returns
returns c = nothing_inside_is_description
