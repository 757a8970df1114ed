use Rattle.std.proofs.Common.{codes}
use Rattle.std.proofs.lemmas.Str.Pattern.{split_text_parts}
use Rattle.bi_edit.proofs.Outcomes.{holds_if_none, holds_if_some}
use Rattle.bi_edit.proofs.PayloadWords.{first_split}
use Rattle.bi_edit.proofs.words.split_word.Goals as goal

pub returns-clause-some : goal.returns-clause-some
returns-clause-some c =
    holds_if_some _ _ c.split_once.result (split_text_parts (codes "=@") c.args.word.now c.split_once.result c.split_once.ensures.cases)

pub returns-clause-first : goal.returns-clause-first
returns-clause-first c = first_split (codes "=@") c.args.word.now c.split_once.result c.split_once.ensures.cases

pub returns-clause-none : goal.returns-clause-none
returns-clause-none c =
    holds_if_none _ _ c.split_once.result (split_text_parts (codes "=@") c.args.word.now c.split_once.result c.split_once.ensures.cases)
