use Rattle.std.proofs.Common.{IfNone, subst}
use Rattle.bi_describe.specs.WordParts.{IsNoPart, IsNoPlace}
use Rattle.bi_describe.proofs.WordTexts.{no_node_word, none_at_all}
use Rattle.bi_describe.proofs.ignored.path_words.node_word.Goals as goal

pub returns-in-None-clause-none : goal.returns-in-None-clause-none
returns-in-None-clause-none c =
    no_node_word c.args.text.now (none_at_all c.args.text.now c.requires)
    (subst (λ found. IfNone found (IsNoPart c.args.text.now)) c.in_default.is c.part_shown_as.ensures.none)
    (subst (λ found. IfNone found (IsNoPlace c.args.text.now)) c.in-None.is c.in_ok-place.ensures.none)
