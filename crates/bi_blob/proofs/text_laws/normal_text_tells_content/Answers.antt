use Rattle.bi_blob.proofs.Texts.NormalOrder.{normal_text_tells_content}
use Rattle.bi_blob.proofs.Texts.TextsWithRest.{normal_text_with_rest_tells_content}
use Rattle.bi_blob.proofs.text_laws.normal_text_tells_content.Goals as goal

pub returns : goal.returns
returns c = record { text = normal_text_tells_content; rest = normal_text_with_rest_tells_content }
