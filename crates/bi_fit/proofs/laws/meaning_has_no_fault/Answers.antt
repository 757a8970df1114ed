use Rattle.bi_fit.proofs.Faults.{fit_has_no_fault}
use Rattle.bi_fit.proofs.laws.meaning_has_no_fault.Goals as goal

pub returns : goal.returns
returns c = fit_has_no_fault
