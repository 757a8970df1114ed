use Rattle.bi_c.proofs.CodeNames.{names_of_codes_are_known}
use Rattle.bi_c.proofs.known_calls.names_of_codes_are_known.Goals as goal

pub returns : goal.returns
returns c = names_of_codes_are_known
