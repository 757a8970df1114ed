use Rattle.bi_report.proofs.TextFacts.{configuration_lines_are_known}
use Rattle.bi_report.proofs.known_texts.configuration_lines_are_known.Goals as goal

pub returns : goal.returns
returns c = configuration_lines_are_known
