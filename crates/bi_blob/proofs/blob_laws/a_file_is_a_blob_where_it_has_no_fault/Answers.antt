use Rattle.bi_blob.proofs.Blobs.Faults.{blob_where_no_fault}
use Rattle.bi_blob.proofs.blob_laws.a_file_is_a_blob_where_it_has_no_fault.Goals as goal

pub returns : goal.returns
returns c = blob_where_no_fault
