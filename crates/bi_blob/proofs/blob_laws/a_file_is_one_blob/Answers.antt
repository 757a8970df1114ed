use Rattle.bi_blob.proofs.Blobs.OneBlob.{one_blob}
use Rattle.bi_blob.proofs.blob_laws.a_file_is_one_blob.Goals as goal

pub returns : goal.returns
returns c = one_blob
