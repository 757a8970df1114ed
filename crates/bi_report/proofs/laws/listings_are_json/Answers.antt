use Rattle.bi_report.proofs.JsonListings.{listings_are_json}
use Rattle.bi_report.proofs.laws.listings_are_json.Goals as goal

pub returns : goal.returns
returns c = listings_are_json
