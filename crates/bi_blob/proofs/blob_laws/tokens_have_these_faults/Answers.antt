use Rattle.bi_blob.proofs.StructureFacts.{tokens_have_faults, token_checks_have_order}
use Rattle.bi_blob.proofs.blob_laws.tokens_have_these_faults.Goals as goal

pub returns : goal.returns
returns c = record { tokens = tokens_have_faults; order = token_checks_have_order }
