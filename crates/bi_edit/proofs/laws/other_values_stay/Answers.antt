use Rattle.bi_edit.proofs.EditLaws as laws
use Rattle.bi_edit.proofs.laws.other_values_stay.Goals as goal

pub returns : goal.returns
returns c = laws.other_values_stay
