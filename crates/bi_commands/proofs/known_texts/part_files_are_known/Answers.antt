use Rattle.bi_commands.proofs.PayloadFileFacts.{part_files_are_known}
use Rattle.bi_commands.proofs.known_texts.part_files_are_known.Goals as goal

pub returns : goal.returns
returns c = part_files_are_known
