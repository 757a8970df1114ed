use Rattle.bi_report.proofs.ScanFacts.{scans_are_known}
use Rattle.bi_report.proofs.known_texts.scans_are_known.Goals as goal

pub returns : goal.returns
returns c = scans_are_known c.one_meaning.ensures
