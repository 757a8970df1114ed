use Rattle.bi_blob.proofs.Texts.TextContent.{blob_has_content}
use Rattle.bi_blob.proofs.text_laws.blob_has_content.Goals as goal

pub returns : goal.returns
returns c = blob_has_content
