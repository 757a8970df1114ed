use Rattle.bi_report.proofs.OutputFacts.{json_listings_are_known}
use Rattle.bi_report.proofs.known_texts.json_listings_are_known.Goals as goal

pub returns : goal.returns
returns c = json_listings_are_known c.one_meaning.ensures
