use Rattle.bi_files.proofs.StepFacts.{beside_names_are_known}
use Rattle.bi_files.proofs.known_steps.beside_names_are_known.Goals as goal

pub returns : goal.returns
returns c = beside_names_are_known
