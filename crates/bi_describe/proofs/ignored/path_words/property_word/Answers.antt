use Rattle.std.proofs.Common.{IfNone, subst}
use Rattle.bi_values.specs.NameWords.{IsNoPropertyName}
use Rattle.bi_describe.specs.WordParts.{IsNoPlace}
use Rattle.bi_describe.proofs.WordTexts.{no_property_name, no_property_place}
use Rattle.bi_describe.proofs.ignored.path_words.property_word.Goals as goal

pub returns-in_default-clause-none : goal.returns-in_default-clause-none
returns-in_default-clause-none c =
    no_property_place c.args.path.now c.args.name.now c.requires
    (subst (λ found. IfNone found (IsNoPlace c.args.path.now)) c.in_default.is c.in_ok-place.ensures.none)

pub returns-in-None-clause-none : goal.returns-in-None-clause-none
returns-in-None-clause-none c =
    no_property_name c.args.path.now c.args.name.now c.requires
    (subst (λ found. IfNone found (IsNoPropertyName c.args.name.now)) c.in-None.is c.in_ok-name.ensures.none)
