use Rattle.bi_commands.proofs.PayloadFileFacts.{image_files_are_known}
use Rattle.bi_commands.proofs.known_texts.image_files_are_known.Goals as goal

pub returns : goal.returns
returns c = image_files_are_known
