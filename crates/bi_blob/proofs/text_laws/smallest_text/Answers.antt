use Rattle.bi_blob.proofs.TextFacts.{smallest_has_text}
use Rattle.bi_blob.proofs.text_laws.smallest_text.Goals as goal

pub returns : goal.returns
returns c = record { text = smallest_has_text }
