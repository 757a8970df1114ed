use Rattle.std.proofs.Common.{◌≡◌}
use Rattle.bi_fit.specs.ImageTree.{with_children_of}
use Rattle.bi_fit.specs.Names.{images_name}
use Rattle.bi_edit.specs.Edits.{with_payload_digests}
use Rattle.bi_plain.specs.PlainNodes.{models_by_name}
use Rattle.bi_plain.proofs.ChangedNodes.{changed_after}
use Rattle.bi_edit.proofs.applying.digests.set_digests_among.Given as goal

abbrev pub invariant-loop-node : goal.invariant-loop-node
invariant-loop-node l =
    (changed_after l.node-index (with_children_of images_name with_payload_digests) (models_by_name l.nodes)
    ≡ with_children_of images_name with_payload_digests (models_by_name l.initial.nodes))
    × (l.nodes ≡ l.initial.nodes)
