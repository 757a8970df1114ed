use Rattle.bi_blob.proofs.HeaderFacts.{headers_have_faults, header_checks_have_order}
use Rattle.bi_blob.proofs.blob_laws.headers_have_these_faults.Goals as goal

pub returns : goal.returns
returns c = record { headers = headers_have_faults; order = header_checks_have_order }
