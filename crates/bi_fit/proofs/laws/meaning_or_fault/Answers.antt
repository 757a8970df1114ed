use Rattle.bi_fit.proofs.Faults.{fit_meaning_or_fault}
use Rattle.bi_fit.proofs.laws.meaning_or_fault.Goals as goal

pub returns : goal.returns
returns c = fit_meaning_or_fault
