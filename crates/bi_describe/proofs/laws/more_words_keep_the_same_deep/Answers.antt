use Rattle.bi_describe.proofs.FurtherDeep.{more_words_keep_the_same_deep}
use Rattle.bi_describe.proofs.laws.more_words_keep_the_same_deep.Goals as goal

pub returns : goal.returns
returns c = more_words_keep_the_same_deep
