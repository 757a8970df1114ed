use Rattle.bi_describe.proofs.JsonDescriptions.{descriptions_are_json}
use Rattle.bi_describe.proofs.laws.descriptions_are_json.Goals as goal

pub returns : goal.returns
returns c = descriptions_are_json
