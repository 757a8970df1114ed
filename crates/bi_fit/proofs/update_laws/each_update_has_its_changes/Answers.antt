use Rattle.bi_fit.proofs.UpdateChanges.{each_update_has_its_changes}
use Rattle.bi_fit.proofs.update_laws.each_update_has_its_changes.Goals as goal

pub returns : goal.returns
returns c = each_update_has_its_changes
