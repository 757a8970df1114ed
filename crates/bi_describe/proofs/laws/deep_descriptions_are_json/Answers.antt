use Rattle.bi_describe.proofs.DeepJsonDescriptions.{deep_descriptions_are_json}
use Rattle.bi_describe.proofs.laws.deep_descriptions_are_json.Goals as goal

pub returns : goal.returns
returns c = deep_descriptions_are_json
