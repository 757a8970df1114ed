use Rattle.std.proofs.Common.{◌≡◌, ℕ, List, drop}
use Rattle.bi_fdt.specs.Numbers.{IsNumberOf}
use Rattle.bi_fit.specs.Names.{data_name}
use Rattle.bi_fit.specs.NormalNodes.{payloads_of}
use Rattle.bi_plain.specs.PlainNodes.{AreNumberedNodes, models_by_name, with_own_payloads}
use Rattle.bi_plain.proofs.ChangedNodes.{changed_after}
use Rattle.bi_plain.proofs.payloads.set_each_payload.Given as goal

abbrev pub invariant-loop-index : goal.invariant-loop-index
invariant-loop-index l =
    (changed_after l.index (with_own_payloads (drop l.index (payloads_of l.images))) (models_by_name l.nodes)
    ≡ with_own_payloads (payloads_of l.images) (models_by_name l.initial.nodes))
    × ((names : List (List ℕ)) → IsNumberOf names data_name l.number → AreNumberedNodes names l.initial.nodes → AreNumberedNodes names
    l.nodes)
