use Rattle.bi_fit.proofs.FaultFacts.{first_fault_counts}
use Rattle.bi_fit.proofs.known_files.first_fault_counts.Goals as goal

pub returns : goal.returns
returns c = record { first = first_fault_counts }
