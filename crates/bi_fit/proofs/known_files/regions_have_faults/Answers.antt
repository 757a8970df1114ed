use Rattle.bi_fit.proofs.FaultFacts.{regions_have_faults}
use Rattle.bi_fit.proofs.known_files.regions_have_faults.Goals as goal

pub returns : goal.returns
returns c = record { regions = regions_have_faults }
