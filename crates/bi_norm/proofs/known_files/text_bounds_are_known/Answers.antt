use Rattle.bi_norm.proofs.TextBoundFacts.{text_bounds_are_known}
use Rattle.bi_norm.proofs.known_files.text_bounds_are_known.Goals as goal

pub returns : goal.returns
returns c = text_bounds_are_known
