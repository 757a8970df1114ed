use Rattle.std.proofs.Common.{IfNone, subst}
use Rattle.bi_values.specs.NameWords.{IsNoPath}
use Rattle.bi_describe.specs.WordParts.{IsNoPayload}
use Rattle.bi_describe.proofs.WordTexts.{no_inner_path, no_inner_payload}
use Rattle.bi_describe.proofs.ignored.path_words.inner_node.Goals as goal

pub returns-in_default-clause-none : goal.returns-in_default-clause-none
returns-in_default-clause-none c =
    no_inner_payload c.args.payload.now c.args.path.now c.requires
    (subst (λ found. IfNone found (IsNoPayload c.args.payload.now)) c.in_default.is c.in_ok-payload.ensures.none)

pub returns-in-None-clause-none : goal.returns-in-None-clause-none
returns-in-None-clause-none c =
    no_inner_path c.args.payload.now c.args.path.now c.requires
    (subst (λ found. IfNone found (IsNoPath c.args.path.now)) c.in-None.is c.in_ok-names.ensures.none)
