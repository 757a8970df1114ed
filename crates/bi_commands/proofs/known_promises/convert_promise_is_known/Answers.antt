use Rattle.bi_commands.proofs.PromiseFacts.{convert_promise_is_known}
use Rattle.bi_commands.proofs.known_promises.convert_promise_is_known.Goals as goal

pub returns : goal.returns
returns c = convert_promise_is_known c.one_meaning.ensures
