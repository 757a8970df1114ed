use Rattle.bi_norm.proofs.BuiltTextFacts.{built_text_is_known}
use Rattle.bi_norm.proofs.known_files.built_text_is_known.Goals as goal

pub returns : goal.returns
returns c = built_text_is_known
