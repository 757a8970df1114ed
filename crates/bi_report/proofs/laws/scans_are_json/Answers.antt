use Rattle.bi_report.proofs.JsonScans.{scans_are_json}
use Rattle.bi_report.proofs.laws.scans_are_json.Goals as goal

pub returns : goal.returns
returns c = scans_are_json
