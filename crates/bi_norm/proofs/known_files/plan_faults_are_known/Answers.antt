use Rattle.bi_norm.proofs.PlanFaultFacts.{plan_faults_are_known}
use Rattle.bi_norm.proofs.known_files.plan_faults_are_known.Goals as goal

pub returns : goal.returns
returns c = plan_faults_are_known
