use Rattle.bi_legacy.proofs.EmitFaultFacts.{emit_faults_are_known}
use Rattle.bi_legacy.proofs.known_files.emit_faults_are_known.Goals as goal

pub returns : goal.returns
returns c = emit_faults_are_known
