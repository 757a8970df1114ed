use Rattle.bi_commands.proofs.PayloadFileFacts.{file_names_are_known}
use Rattle.bi_commands.proofs.known_texts.file_names_are_known.Goals as goal

pub returns : goal.returns
returns c = file_names_are_known
