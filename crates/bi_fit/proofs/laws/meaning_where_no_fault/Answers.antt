use Rattle.bi_fit.proofs.Faults.{fit_meaning_where_no_fault}
use Rattle.bi_fit.proofs.laws.meaning_where_no_fault.Goals as goal

pub returns : goal.returns
returns c = fit_meaning_where_no_fault
