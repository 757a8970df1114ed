use Rattle.bi_report.proofs.OutputFacts.{check_outputs_are_known}
use Rattle.bi_report.proofs.known_texts.check_outputs_are_known.Goals as goal

pub returns : goal.returns
returns c = check_outputs_are_known c.one_meaning.ensures
