use Rattle.bi_commands.proofs.PartFacts.{filled_parts_are_known}
use Rattle.bi_commands.proofs.known_texts.filled_parts_are_known.Goals as goal

pub returns : goal.returns
returns c = filled_parts_are_known
