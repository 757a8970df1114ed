use Rattle.bi_norm.proofs.BuiltTextFacts.{cut_errors_are_known}
use Rattle.bi_norm.proofs.known_files.cut_errors_are_known.Goals as goal

pub returns : goal.returns
returns c = cut_errors_are_known
