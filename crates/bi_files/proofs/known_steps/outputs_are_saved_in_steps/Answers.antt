use Rattle.bi_files.proofs.StepFacts.{saved_in_steps}
use Rattle.bi_files.proofs.known_steps.outputs_are_saved_in_steps.Goals as goal

pub returns : goal.returns
returns c = saved_in_steps
