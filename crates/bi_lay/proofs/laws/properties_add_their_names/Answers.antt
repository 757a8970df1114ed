use Rattle.bi_lay.proofs.TreeStages.{properties_add_their_names}
use Rattle.bi_lay.proofs.laws.properties_add_their_names.Goals as goal

pub returns : goal.returns
returns c = properties_add_their_names
