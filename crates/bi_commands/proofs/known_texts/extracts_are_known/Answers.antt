use Rattle.bi_commands.proofs.ExtractFacts.{extracts_are_known}
use Rattle.bi_commands.proofs.known_texts.extracts_are_known.Goals as goal

pub returns : goal.returns
returns c = extracts_are_known c.one_meaning.ensures
