use Rattle.bi_commands.proofs.PayloadFileFacts.{safe_names_are_known}
use Rattle.bi_commands.proofs.known_texts.safe_names_are_known.Goals as goal

pub returns : goal.returns
returns c = safe_names_are_known
