use Rattle.bi_blob.proofs.BlobFacts.{files_are_blobs, tokens_are_newest_first}
use Rattle.bi_blob.proofs.blob_laws.files_are_these_blobs.Goals as goal

pub returns : goal.returns
returns c = record { blobs = files_are_blobs; tokens = tokens_are_newest_first }
