use Rattle.std.proofs.Common.{◌≡◌, ◌<◌, ◌^◌, length, inl, ap, ◌∙◌, rules, arith}
use borrow.Author.Tests.{tests}
use Rattle.std.proofs.lemmas.Iterator.Consumers.{YieldsList-from_first, YieldsList-from_filter, count_from_yields_List}
use Rattle.bi_blob.specs.Lookups.{siblings}
use Rattle.bi_fdt.specs.Views.{node_of}
use Rattle.bi_fit.specs.Names.{is_signature_name}
use Rattle.bi_fit.specs.Siblings.{siblings_left}
use Rattle.bi_fit.proofs.signatures.count_children.Goals as goal

pub count-requires-clause-fits : goal.count-requires-clause-fits
count-requires-clause-fits c =
    let left : siblings_left c.filter.result.iter
    ≡ siblings (node_of c.args.parent).children = ap siblings_left c.filter.ensures.source ∙ c.children.ensures in
    let few : length (siblings (node_of c.args.parent).children) < 2 ^ 31 = c.requires in
    inl (simp left (omega arith))

pub returns : goal.returns
returns c =
    count_from_yields_List _ _ c.count.ensures.ran
    (YieldsList-from_filter _ (λ child. is_signature_name child.name)
    (YieldsList-from_first node_of siblings_left (siblings (node_of c.args.parent).children)
    (ap siblings_left c.filter.ensures.source ∙ c.children.ensures))
    c.filter.ensures.closure
    (λ x b q k. search (rules, tests)))
