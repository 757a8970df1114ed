use Rattle.bi_norm.proofs.KindLaws.{file_meaning_or_fault}
use Rattle.bi_norm.proofs.laws.meaning_or_fault.Goals as goal

pub returns : goal.returns
returns c = file_meaning_or_fault c.meaning_or_fault.ensures
