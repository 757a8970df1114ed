use Rattle.bi_report.proofs.JsonReports.{reports_are_json}
use Rattle.bi_report.proofs.laws.reports_are_json.Goals as goal

pub returns : goal.returns
returns c = reports_are_json
