use Rattle.bi_blob.proofs.Texts.TreeOrder.{may_be_ordered}
use Rattle.bi_blob.proofs.text_laws.content_may_be_ordered.Goals as goal

pub returns : goal.returns
returns c = may_be_ordered
