use Rattle.bi_commands.proofs.PromiseFacts.{kept_of_updates_is_known}
use Rattle.bi_commands.proofs.known_promises.kept_of_updates_is_known.Goals as goal

pub returns : goal.returns
returns c = kept_of_updates_is_known c.one_meaning.ensures
