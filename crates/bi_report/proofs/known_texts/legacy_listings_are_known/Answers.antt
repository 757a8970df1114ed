use Rattle.bi_report.proofs.TextFacts.{legacy_listings_are_known}
use Rattle.bi_report.proofs.known_texts.legacy_listings_are_known.Goals as goal

pub returns : goal.returns
returns c = legacy_listings_are_known
