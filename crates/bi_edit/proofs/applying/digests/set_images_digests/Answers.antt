use Rattle.std.proofs.Common.{ap, ◌∙◌}
use Rattle.std.proofs.lemmas.List.{with_items_is}
use Rattle.std.proofs.lemmas.Result.{on_ok_weaker}
use Rattle.bi_tree.specs.Trees.{by_name}
use Rattle.bi_blob.specs.Tree.{with_each}
use Rattle.bi_edit.specs.Edits.{with_payload_digests}
use Rattle.bi_plain.specs.PlainNodes.{models_by_name}
use Rattle.bi_edit.proofs.applying.digests.set_images_digests.Goals as goal

pub returns-clause-set : goal.returns-clause-set
returns-clause-set c =
    on_ok_weaker c.set_each_digests.result
    (λ is.
    ap models_by_name
    (with_items_is c.images.inside.children c.set_each_digests.new.images (c.set_each_digests.auto.images ∙ c.deref_mut.ensures.len))
    ∙ is
    ∙ ap (λ nodes. with_payload_digests (models_by_name nodes)) c.deref_mut.ensures.value
    ∙ ap (λ top. with_payload_digests (with_each by_name top.children)) c.images.view_is)
    c.set_each_digests.ensures.set
