use Rattle.bi_fit.proofs.Faults.{one_fit_fault}
use Rattle.bi_fit.proofs.laws.one_fault.Goals as goal

pub returns : goal.returns
returns c = one_fit_fault
