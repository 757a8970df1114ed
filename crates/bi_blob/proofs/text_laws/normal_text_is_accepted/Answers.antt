use Rattle.bi_blob.proofs.Texts.TextLimits.{normal_text_is_accepted}
use Rattle.bi_blob.proofs.text_laws.normal_text_is_accepted.Goals as goal

pub returns : goal.returns
returns c = normal_text_is_accepted
