use Rattle.bi_norm.proofs.ComparisonFacts.{compare_errors_are_known}
use Rattle.bi_norm.proofs.known_files.compare_errors_are_known.Goals as goal

pub returns : goal.returns
returns c = compare_errors_are_known
