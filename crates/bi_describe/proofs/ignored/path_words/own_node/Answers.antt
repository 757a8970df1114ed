use Rattle.std.proofs.Common.{IfNone, subst}
use Rattle.bi_values.specs.NameWords.{IsNoPath}
use Rattle.bi_describe.proofs.WordTexts.{no_own_place}
use Rattle.bi_describe.proofs.ignored.path_words.own_node.Goals as goal

pub returns-in-None-clause-none : goal.returns-in-None-clause-none
returns-in-None-clause-none c =
    no_own_place c.args.path.now c.requires
    (subst (λ found. IfNone found (IsNoPath c.args.path.now)) c.in-None.is c.in_ok-names.ensures.none)
