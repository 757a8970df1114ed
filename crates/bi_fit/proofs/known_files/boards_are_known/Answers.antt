use Rattle.bi_fit.proofs.BuildFacts.{boards_are_known}
use Rattle.bi_fit.proofs.known_files.boards_are_known.Goals as goal

pub returns : goal.returns
returns c = record { boards = boards_are_known }
