use Rattle.bi_norm.proofs.ComparisonFacts.{compared_files_are_known}
use Rattle.bi_norm.proofs.known_files.compared_files_are_known.Goals as goal

pub returns : goal.returns
returns c = compared_files_are_known c.one_meaning.ensures
