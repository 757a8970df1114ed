use Rattle.bi_report.proofs.JsonReports.{concerns_are_json}
use Rattle.bi_report.proofs.laws.concerns_are_json.Goals as goal

pub returns : goal.returns
returns c = concerns_are_json
