use Rattle.std.proofs.Common.{ap, ◌∙◌}
use Rattle.std.proofs.lemmas.List.{with_items_is}
use Rattle.std.proofs.lemmas.Result.{on_ok_weaker}
use Rattle.bi_blob.specs.Tree.{with_each}
use Rattle.bi_fit.specs.NormalNodes.{payloads_of}
use Rattle.bi_tree.specs.Trees.{by_name}
use Rattle.bi_plain.specs.PlainNodes.{models_by_name, with_own_payloads}
use Rattle.bi_plain.proofs.payloads.set_images_payloads.Goals as goal

pub returns-clause-set : goal.returns-clause-set
returns-clause-set c =
    let payloads = payloads_of c.args.images.now in
    on_ok_weaker c.set_each_payload.result
    (λ is.
    ap models_by_name
    (with_items_is c.node.inside.children c.set_each_payload.new.nodes (c.set_each_payload.auto.nodes ∙ c.deref_mut.ensures.len))
    ∙ is
    ∙ ap (λ nodes. with_own_payloads payloads (models_by_name nodes)) c.deref_mut.ensures.value
    ∙ ap (λ top. with_own_payloads payloads (with_each by_name top.children)) c.node.view_is)
    c.set_each_payload.ensures.set
