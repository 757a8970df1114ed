use Rattle.bi_describe.proofs.DifferenceFacts.{comparisons_are_known}
use Rattle.bi_describe.proofs.known_texts.comparisons_are_known.Goals as goal

pub returns : goal.returns
returns c = comparisons_are_known
