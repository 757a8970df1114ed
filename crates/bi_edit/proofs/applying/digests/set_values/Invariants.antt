use Rattle.std.proofs.Common.{◌≡◌, ℕ, List, length, map, option_map}
use Rattle.bi_fdt.specs.Numbers.{IsNumberOf}
use Rattle.bi_fit.specs.Names.{value_name}
use Rattle.std.specs.Vec.Iter.{into_iter_items, into_iter_len}
use Rattle.bi_edit.specs.PayloadDigests.{with_each_digest}
use Rattle.bi_plain.specs.PlainNodes.{AreNumberedNodes, models_by_name}
use Rattle.bi_plain.proofs.ChangedNodes.{changed_after}
use Rattle.bi_edit.proofs.applying.digests.set_values.Given as goal

abbrev pub invariant-loop-node : goal.invariant-loop-node
invariant-loop-node l =
    (changed_after l.node-index (with_each_digest (map (option_map (λ bytes. bytes.items)) (into_iter_items l.left)))
    (models_by_name l.nodes)
    ≡ with_each_digest (map (option_map (λ bytes. bytes.items)) (into_iter_items l.initial.left))
    (models_by_name l.initial.nodes))
    × ((names : List (List ℕ)) → IsNumberOf names value_name l.number → AreNumberedNodes names l.initial.nodes → AreNumberedNodes names
    l.nodes)
    × (into_iter_len l.left ≡ length (into_iter_items l.left))
