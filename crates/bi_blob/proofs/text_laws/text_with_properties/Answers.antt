use Rattle.bi_blob.proofs.TextFacts.{is_laid_out}
use Rattle.bi_blob.proofs.text_laws.text_with_properties.Goals as goal

pub returns : goal.returns
returns c = record { layout = is_laid_out }
