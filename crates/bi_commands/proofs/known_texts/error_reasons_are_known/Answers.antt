use Rattle.bi_commands.proofs.ExtractFacts.{error_reasons_are_known}
use Rattle.bi_commands.proofs.known_texts.error_reasons_are_known.Goals as goal

pub returns : goal.returns
returns c = error_reasons_are_known
