use Rattle.bi_fit.proofs.JudgementFacts.{lists_are_read}
use Rattle.bi_fit.proofs.known_files.lists_are_read.Goals as goal

pub returns : goal.returns
returns c = record { lists = lists_are_read }
