use Rattle.bi_blob.proofs.Texts.TextContent.{text_has_one_content}
use Rattle.bi_blob.proofs.Texts.TextsWithRest.{text_with_rest_has_one_content}
use Rattle.bi_blob.proofs.text_laws.text_has_one_content.Goals as goal

pub returns : goal.returns
returns c = record { text = text_has_one_content; rest = text_with_rest_has_one_content }
