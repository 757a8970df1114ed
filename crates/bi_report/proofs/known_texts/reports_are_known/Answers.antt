use Rattle.bi_report.proofs.TextFacts.{reports_are_known}
use Rattle.bi_report.proofs.known_texts.reports_are_known.Goals as goal

pub returns : goal.returns
returns c = reports_are_known
