use Rattle.bi_fit.proofs.BuildFacts.{hash_nodes_are_known}
use Rattle.bi_fit.proofs.known_files.hash_nodes_are_known.Goals as goal

pub returns : goal.returns
returns c = record { hashes = hash_nodes_are_known }
