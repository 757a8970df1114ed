use Rattle.bi_blob.proofs.StructureFacts.{version_16_has_faults}
use Rattle.bi_blob.proofs.blob_laws.version_16_has_these_faults.Goals as goal

pub returns : goal.returns
returns c = record { faults = version_16_has_faults }
