use Rattle.bi_fit.proofs.NameLists.{reads_names}
use Rattle.bi_fit.proofs.laws.reads_names.Goals as goal

pub returns : goal.returns
returns c = record { names = reads_names }
