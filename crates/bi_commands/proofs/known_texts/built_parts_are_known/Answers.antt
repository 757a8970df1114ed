use Rattle.bi_commands.proofs.PartFacts.{built_parts_are_known}
use Rattle.bi_commands.proofs.known_texts.built_parts_are_known.Goals as goal

pub returns : goal.returns
returns c = built_parts_are_known
