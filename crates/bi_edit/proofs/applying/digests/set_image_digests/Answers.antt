use Rattle.std.proofs.Common.{map, option_map, ap, ◌∙◌}
use Rattle.std.proofs.lemmas.List.{with_items_is}
use Rattle.std.proofs.lemmas.Result.{on_ok_weaker}
use Rattle.std.specs.FinMap.{get}
use Rattle.bi_tree.specs.Trees.{by_name}
use Rattle.bi_blob.specs.Tree.{with_each}
use Rattle.bi_fit.specs.Names.{data_name}
use Rattle.bi_edit.specs.PayloadDigests.{with_each_digest}
use Rattle.bi_plain.specs.PlainNodes.{models_by_name}
use Rattle.bi_edit.proofs.GivenDigests.{digests_given}
use Rattle.bi_edit.proofs.applying.digests.set_image_digests.Goals as goal

pub returns-clause-set : goal.returns-clause-set
returns-clause-set c =
    let image = c.args.image.now in
    let digests = map (option_map (λ bytes. bytes.items)) c.in_ok-digests.digests.items in
    on_ok_weaker c.set_values.result
    (λ is.
    ap models_by_name
    (with_items_is c.image.inside.children c.set_values.new.nodes (c.set_values.auto.nodes ∙ c.deref_mut.ensures.len))
    ∙ is
    ∙ ap (λ nodes. with_each_digest digests (models_by_name nodes)) c.deref_mut.ensures.value
    ∙ ap (λ top. with_each_digest digests (with_each by_name top.children)) c.image.view_is
    ∙ ap (λ given. with_each_digest given (with_each by_name image.children)) c.in_ok-digests.ensures
    ∙ digests_given (get (by_name image.own) data_name) (with_each by_name image.children))
    c.set_values.ensures.set
