use Rattle.bi_fit.proofs.FileFacts.{only_images_have_payloads}
use Rattle.bi_fit.proofs.known_files.only_images_have_payloads.Goals as goal

pub returns : goal.returns
returns c = record { others = only_images_have_payloads }
