use Rattle.bi_describe.proofs.IgnoredFacts.{ignored_words_are_known}
use Rattle.bi_describe.proofs.known_ignored.ignored_words_are_known.Goals as goal

pub returns : goal.returns
returns c = ignored_words_are_known
