use Rattle.bi_norm.proofs.KindLaws.{one_file_fault}
use Rattle.bi_norm.proofs.laws.one_fault.Goals as goal

pub returns : goal.returns
returns c = one_file_fault
