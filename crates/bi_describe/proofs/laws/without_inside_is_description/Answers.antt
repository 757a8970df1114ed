use Rattle.bi_describe.proofs.WithoutInside.{without_inside_is_description}
use Rattle.bi_describe.proofs.laws.without_inside_is_description.Goals as goal

pub returns : goal.returns
returns c = without_inside_is_description
