use Rattle.bi_blob.proofs.Blobs.Padding.{passed_where_encoded}
use Rattle.bi_blob.proofs.blob_laws.passed_tokens_are_encoded.Goals as goal

pub returns : goal.returns
returns c = passed_where_encoded
