use Rattle.bi_norm.proofs.KindLaws.{file_has_no_fault}
use Rattle.bi_norm.proofs.laws.meaning_has_no_fault.Goals as goal

pub returns : goal.returns
returns c = file_has_no_fault
