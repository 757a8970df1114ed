use Rattle.bi_fit.proofs.TextLaws.{each_external_text_has_its_length}
use Rattle.bi_fit.proofs.laws.each_external_text_has_its_length.Goals as goal

pub returns : goal.returns
returns c = each_external_text_has_its_length
