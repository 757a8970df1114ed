use Rattle.bi_report.proofs.TextFacts.{fit_listing_is_known}
use Rattle.bi_report.proofs.known_texts.fit_listing_is_known.Goals as goal

pub returns : goal.returns
returns c = fit_listing_is_known
