use Rattle.bi_fit.proofs.KeptFacts.{kept_of_files_is_known, kept_of_payloads_is_known}
use Rattle.bi_fit.proofs.known_files.kept_is_known.Goals as goal

pub returns : goal.returns
returns c = record { files = kept_of_files_is_known; payloads = kept_of_payloads_is_known }
