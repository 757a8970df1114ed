use Rattle.bi_c.proofs.LegacyCallFacts.{legacy_selections_are_known}
use Rattle.bi_c.proofs.known_calls.legacy_selections_are_known.Goals as goal

pub returns : goal.returns
returns c = legacy_selections_are_known c.one_meaning.ensures
