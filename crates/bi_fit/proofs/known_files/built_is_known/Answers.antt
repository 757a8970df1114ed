use Rattle.bi_fit.proofs.BuildFacts.{built_is_known}
use Rattle.bi_fit.proofs.known_files.built_is_known.Goals as goal

pub returns : goal.returns
returns c = record { built = built_is_known }
