use Rattle.bi_common.proofs.JsonFacts.{json_is_known}
use Rattle.bi_common.proofs.known_texts.json_is_known.Goals as goal

pub returns : goal.returns
returns c = json_is_known
