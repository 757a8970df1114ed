use Rattle.std.proofs.Common.{◌∙◌, IfNone, IfOk, IfSome, sym, subst}
use Rattle.bi_describe.specs.IgnoredWords.{IsNoWordWithPath, IsWordWithPath}
use Rattle.bi_describe.specs.MadeWords.{ignored_word}
use Rattle.bi_describe.proofs.WordTexts.{joined_at_space, no_space_before}
use Rattle.bi_describe.proofs.ignored.path_words.path_word.Goals as goal

pub property_word-requires : goal.property_word-requires
property_word-requires c = no_space_before c.args.text.now c.in-Some.space (sym c.position_of_space.ensures ∙ c.in-Some.is)

pub returns-in-Some-clause-some : goal.returns-in-Some-clause-some
returns-in-Some-clause-some c =
    subst (λ text. IfOk c.property_word.result (λ found. IfSome found (λ word. IsWordWithPath text (ignored_word word))))
    (joined_at_space c.args.text.now c.in-Some.space (sym c.position_of_space.ensures ∙ c.in-Some.is)) c.property_word.ensures.some

pub returns-in-Some-clause-none : goal.returns-in-Some-clause-none
returns-in-Some-clause-none c =
    subst (λ text. IfOk c.property_word.result (λ found. IfNone found (IsNoWordWithPath text)))
    (joined_at_space c.args.text.now c.in-Some.space (sym c.position_of_space.ensures ∙ c.in-Some.is)) c.property_word.ensures.none
