use Rattle.bi_norm.proofs.KindLaws.{file_meaning_where_no_fault}
use Rattle.bi_norm.proofs.laws.meaning_where_no_fault.Goals as goal

pub returns : goal.returns
returns c = file_meaning_where_no_fault c.meaning_or_fault.ensures
