use Rattle.bi_commands.proofs.UpdatedMeaningFacts.{updated_meanings_are_known}
use Rattle.bi_commands.proofs.known_updates.updated_meanings_are_known.Goals as goal

pub returns : goal.returns
returns c = updated_meanings_are_known
