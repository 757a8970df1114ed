use Rattle.bi_blob.proofs.Texts.TextBlob.{text_is_blob}
use Rattle.bi_blob.proofs.text_laws.text_is_a_blob.Goals as goal

pub returns : goal.returns
returns c = text_is_blob
