use Rattle.bi_blob.proofs.Blobs.Faults.{blob_or_fault}
use Rattle.bi_blob.proofs.blob_laws.a_file_is_a_blob_or_has_a_fault.Goals as goal

pub returns : goal.returns
returns c = blob_or_fault
