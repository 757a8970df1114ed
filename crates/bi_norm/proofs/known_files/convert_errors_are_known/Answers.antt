use Rattle.bi_norm.proofs.ConvertFacts.{convert_errors_are_known}
use Rattle.bi_norm.proofs.known_files.convert_errors_are_known.Goals as goal

pub returns : goal.returns
returns c = convert_errors_are_known c.one_meaning.ensures
