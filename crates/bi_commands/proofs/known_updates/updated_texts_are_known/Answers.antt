use Rattle.bi_commands.proofs.ExtractFacts.{updated_texts_are_known}
use Rattle.bi_commands.proofs.known_updates.updated_texts_are_known.Goals as goal

pub returns : goal.returns
returns c = updated_texts_are_known c.one_meaning.ensures
