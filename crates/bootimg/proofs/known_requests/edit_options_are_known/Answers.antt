use Rattle.bootimg.proofs.EditOptionFacts.{edit_failures_are_known, edit_options_are_known, field_words_are_known}
use Rattle.bootimg.proofs.known_requests.edit_options_are_known.Goals as goal

pub returns : goal.returns
returns c = record { words = field_words_are_known; options = edit_options_are_known; failures = edit_failures_are_known }
