use Rattle.bi_report.proofs.LegacyConcernFacts.{legacy_concerns_are_known}
use Rattle.bi_report.proofs.known_texts.legacy_concerns_are_known.Goals as goal

pub returns : goal.returns
returns c = legacy_concerns_are_known c.one_meaning.ensures
