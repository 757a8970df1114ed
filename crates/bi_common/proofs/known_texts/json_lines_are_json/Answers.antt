use Rattle.bi_common.proofs.JsonTexts.{json_lines_are_json}
use Rattle.bi_common.proofs.known_texts.json_lines_are_json.Goals as goal

pub returns : goal.returns
returns c = json_lines_are_json
