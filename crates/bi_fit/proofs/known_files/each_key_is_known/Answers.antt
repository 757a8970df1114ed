use Rattle.bi_fit.proofs.BuildFacts.{each_key_is_known}
use Rattle.bi_fit.proofs.known_files.each_key_is_known.Goals as goal

pub returns : goal.returns
returns c = record { keys = each_key_is_known }
