use Rattle.bi_files.proofs.StepFacts.{directory_saved_in_steps}
use Rattle.bi_files.proofs.known_steps.directories_are_saved_in_steps.Goals as goal

pub returns : goal.returns
returns c = directory_saved_in_steps
