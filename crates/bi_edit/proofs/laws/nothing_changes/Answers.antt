use Rattle.bi_edit.proofs.EditLaws as laws
use Rattle.bi_edit.proofs.laws.nothing_changes.Goals as goal

pub returns : goal.returns
returns c = laws.nothing_changes
