use Rattle.bi_edit.proofs.EditLaws as laws
use Rattle.bi_edit.proofs.laws.set_values_are_there.Goals as goal

pub returns : goal.returns
returns c = laws.set_values_are_there
