use Rattle.bi_fit.proofs.JudgementFacts.{hashes_are_judged}
use Rattle.bi_fit.proofs.known_files.hashes_are_judged.Goals as goal

pub returns : goal.returns
returns c = record { hashes = hashes_are_judged }
