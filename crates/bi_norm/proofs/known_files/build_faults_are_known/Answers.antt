use Rattle.bi_norm.proofs.BuildFaultFacts.{build_faults_are_known}
use Rattle.bi_norm.proofs.known_files.build_faults_are_known.Goals as goal

pub returns : goal.returns
returns c = build_faults_are_known
