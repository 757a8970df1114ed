use Rattle.bi_commands.proofs.PromiseFacts.{files_of_payloads_are_known}
use Rattle.bi_commands.proofs.known_promises.files_of_payloads_are_known.Goals as goal

pub returns : goal.returns
returns c = files_of_payloads_are_known
