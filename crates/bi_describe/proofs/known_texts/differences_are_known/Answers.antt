use Rattle.bi_describe.proofs.DifferenceFacts.{differences_are_known}
use Rattle.bi_describe.proofs.known_texts.differences_are_known.Goals as goal

pub returns : goal.returns
returns c = differences_are_known
