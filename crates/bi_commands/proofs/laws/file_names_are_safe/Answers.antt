use Rattle.bi_commands.proofs.PayloadFiles.{file_names_are_safe}
use Rattle.bi_commands.proofs.laws.file_names_are_safe.Goals as goal

pub returns : goal.returns
returns c = file_names_are_safe
