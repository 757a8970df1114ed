use Rattle.std.proofs.Common.{◌≡◌, ℕ, List}
use Rattle.bi_fdt.specs.Numbers.{IsNumberOf}
use Rattle.bi_fit.specs.Names.{value_name}
use Rattle.bi_edit.specs.Edits.{with_payload_digests}
use Rattle.bi_plain.specs.PlainNodes.{AreNumberedNodes, models_by_name}
use Rattle.bi_plain.proofs.ChangedNodes.{changed_after}
use Rattle.bi_edit.proofs.applying.digests.set_each_digests.Given as goal

abbrev pub invariant-loop-image : goal.invariant-loop-image
invariant-loop-image l =
    (changed_after l.image-index with_payload_digests (models_by_name l.images)
    ≡ with_payload_digests (models_by_name l.initial.images))
    × ((names : List (List ℕ)) → IsNumberOf names value_name l.number → AreNumberedNodes names l.initial.images → AreNumberedNodes names
    l.images)
