use Rattle.bi_blob.proofs.Texts.TextLimits.{text_is_accepted}
use Rattle.bi_blob.proofs.text_laws.text_is_accepted.Goals as goal

pub returns : goal.returns
returns c = text_is_accepted
