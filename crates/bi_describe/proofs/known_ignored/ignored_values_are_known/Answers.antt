use Rattle.bi_describe.proofs.ComparedWithoutFacts.{ignored_values_are_known}
use Rattle.bi_describe.proofs.known_ignored.ignored_values_are_known.Goals as goal

pub returns : goal.returns
returns c = ignored_values_are_known
