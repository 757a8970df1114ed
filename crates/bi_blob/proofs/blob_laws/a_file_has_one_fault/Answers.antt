use Rattle.bi_blob.proofs.Blobs.Faults.{one_blob_fault}
use Rattle.bi_blob.proofs.blob_laws.a_file_has_one_fault.Goals as goal

pub returns : goal.returns
returns c = one_blob_fault
