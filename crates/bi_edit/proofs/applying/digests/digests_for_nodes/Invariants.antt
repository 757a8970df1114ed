use Rattle.std.proofs.Common.{◌≡◌, ◌++◌, length, drop, map, option_map, Some}
use Rattle.bi_edit.specs.PayloadDigests.{payload_digests}
use Rattle.bi_plain.specs.PlainNodes.{models_by_name}
use Rattle.bi_edit.proofs.applying.digests.digests_for_nodes.Given as goal

abbrev pub invariant-loop-node : goal.invariant-loop-node
invariant-loop-node l =
    (map (option_map (λ bytes. bytes.items)) l.digests.items
    ++ payload_digests (Some l.payload) (models_by_name (drop l.node-index l.nodes))
    ≡ payload_digests (Some l.payload) (models_by_name l.nodes))
    × (l.kept ≡ l.payload) × (l.whole.begin ≡ 0) × (l.whole.length ≡ length l.payload)
