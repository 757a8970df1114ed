use Rattle.bi_values.proofs.ValueWords.{found_has_word}
use Rattle.bi_values.proofs.value_name.HeaderField.from_word.Goals as goal

pub returns-clause-some : goal.returns-clause-some
returns-clause-some c = found_has_word c.args.word.now c.find_by_word.result c.find_by_word.ensures
