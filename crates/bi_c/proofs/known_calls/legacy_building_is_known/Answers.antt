use Rattle.bi_c.proofs.LegacyCallFacts.{legacy_building_is_known}
use Rattle.bi_c.proofs.known_calls.legacy_building_is_known.Goals as goal

pub returns : goal.returns
returns c = legacy_building_is_known
