use Rattle.bi_report.proofs.OutputFacts.{verify_outputs_are_known}
use Rattle.bi_report.proofs.known_texts.verify_outputs_are_known.Goals as goal

pub returns : goal.returns
returns c = verify_outputs_are_known c.one_meaning.ensures
