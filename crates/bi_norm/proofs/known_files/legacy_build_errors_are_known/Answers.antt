use Rattle.bi_norm.proofs.BuiltTextFacts.{legacy_build_errors_are_known}
use Rattle.bi_norm.proofs.known_files.legacy_build_errors_are_known.Goals as goal

pub returns : goal.returns
returns c = legacy_build_errors_are_known
