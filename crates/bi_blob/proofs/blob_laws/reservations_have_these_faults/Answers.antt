use Rattle.bi_blob.proofs.HeaderFacts.{reservations_have_faults}
use Rattle.bi_blob.proofs.blob_laws.reservations_have_these_faults.Goals as goal

pub returns : goal.returns
returns c = record { reservations = reservations_have_faults }
