use Rattle.bi_blob.proofs.NamePrefixes.{prefixes_keep_order}
use Rattle.bi_blob.proofs.text_laws.prefixes_keep_byte_order.Goals as goal

pub returns : goal.returns
returns c = prefixes_keep_order
