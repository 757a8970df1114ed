use Rattle.bi_edit.proofs.EditLaws as laws
use Rattle.bi_edit.proofs.laws.setting_what_is_there.Goals as goal

pub returns : goal.returns
returns c = laws.setting_what_is_there
