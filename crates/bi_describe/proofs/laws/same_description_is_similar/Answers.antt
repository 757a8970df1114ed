use Rattle.bi_describe.proofs.ReadableDescriptions.SameDescriptions.{same_description_is_similar}
use Rattle.bi_describe.proofs.laws.same_description_is_similar.Goals as goal

pub returns : goal.returns
returns c = same_description_is_similar
