use Rattle.bi_commands.proofs.PayloadFiles.{each_payload_has_its_file}
use Rattle.bi_commands.proofs.laws.each_payload_has_its_file.Goals as goal

pub returns : goal.returns
returns c = each_payload_has_its_file
