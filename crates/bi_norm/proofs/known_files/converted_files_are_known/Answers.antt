use Rattle.bi_norm.proofs.ConvertFacts.{converted_files_are_known}
use Rattle.bi_norm.proofs.known_files.converted_files_are_known.Goals as goal

pub returns : goal.returns
returns c = converted_files_are_known c.one_meaning.ensures
