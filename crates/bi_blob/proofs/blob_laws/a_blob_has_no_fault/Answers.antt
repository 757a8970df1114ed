use Rattle.bi_blob.proofs.Blobs.Faults.{blob_has_no_fault}
use Rattle.bi_blob.proofs.blob_laws.a_blob_has_no_fault.Goals as goal

pub returns : goal.returns
returns c = blob_has_no_fault
