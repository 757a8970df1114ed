use Rattle.bi_fit.proofs.UpdatedVerdicts.{updated_judgement}
use Rattle.bi_fit.proofs.update_laws.each_update_has_its_judgement.Goals as goal

pub returns : goal.returns
returns c = updated_judgement
