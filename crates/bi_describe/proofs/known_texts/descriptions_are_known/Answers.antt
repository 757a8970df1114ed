use Rattle.bi_describe.proofs.DescriptionFacts.{descriptions_are_known}
use Rattle.bi_describe.proofs.known_texts.descriptions_are_known.Goals as goal

pub returns : goal.returns
returns c = descriptions_are_known
