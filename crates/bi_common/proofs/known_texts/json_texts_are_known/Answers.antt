use Rattle.bi_common.proofs.JsonFacts.{json_texts_are_known}
use Rattle.bi_common.proofs.known_texts.json_texts_are_known.Goals as goal

pub returns : goal.returns
returns c = json_texts_are_known
