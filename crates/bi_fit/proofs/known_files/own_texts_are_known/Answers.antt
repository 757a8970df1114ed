use Rattle.bi_fit.proofs.BuildFacts.{own_texts_are_known}
use Rattle.bi_fit.proofs.known_files.own_texts_are_known.Goals as goal

pub returns : goal.returns
returns c = record { texts = own_texts_are_known }
