use Rattle.bi_commands.proofs.ExtractFacts.{all_extracts_are_known}
use Rattle.bi_commands.proofs.known_texts.all_extracts_are_known.Goals as goal

pub returns : goal.returns
returns c = all_extracts_are_known c.one_meaning.ensures
