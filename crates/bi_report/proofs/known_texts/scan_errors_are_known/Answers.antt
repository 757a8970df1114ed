use Rattle.bi_report.proofs.ScanFacts.{scan_errors_are_known}
use Rattle.bi_report.proofs.known_texts.scan_errors_are_known.Goals as goal

pub returns : goal.returns
returns c = scan_errors_are_known
