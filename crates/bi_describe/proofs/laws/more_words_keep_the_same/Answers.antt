use Rattle.bi_describe.proofs.FurtherWords.{more_words_keep_the_same}
use Rattle.bi_describe.proofs.laws.more_words_keep_the_same.Goals as goal

pub returns : goal.returns
returns c = more_words_keep_the_same
