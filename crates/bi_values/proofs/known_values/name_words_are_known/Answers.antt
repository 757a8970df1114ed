use Rattle.bi_values.proofs.NameWordFacts.{name_words_are_known}
use Rattle.bi_values.proofs.known_values.name_words_are_known.Goals as goal

pub returns : goal.returns
returns c = name_words_are_known
