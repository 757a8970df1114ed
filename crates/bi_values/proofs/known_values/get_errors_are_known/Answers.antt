use Rattle.bi_values.proofs.ValueFacts.{get_errors_are_known}
use Rattle.bi_values.proofs.known_values.get_errors_are_known.Goals as goal

pub returns : goal.returns
returns c = get_errors_are_known c.one_meaning.ensures
