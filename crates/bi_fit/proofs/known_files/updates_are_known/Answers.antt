use Rattle.bi_fit.proofs.UpdateFacts.{updates_are_known}
use Rattle.bi_fit.proofs.known_files.updates_are_known.Goals as goal

pub returns : goal.returns
returns c = record { updates = updates_are_known }
