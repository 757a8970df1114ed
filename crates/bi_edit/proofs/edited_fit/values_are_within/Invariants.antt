use Rattle.std.proofs.Common.{◌≡◌, ◌≤◌, ◌+◌, drop}
use Rattle.bi_common.specs.PayloadBounds.{payloads_length}
use Rattle.bi_plain.specs.PlainNodes.{models_by_name}
use Rattle.bi_edit.proofs.PlainBounds.{data_values}
use Rattle.bi_edit.proofs.edited_fit.values_are_within.Given as goal

abbrev pub invariant-loop-node : goal.invariant-loop-node
invariant-loop-node l = record {
  counted : l.total + payloads_length (data_values (models_by_name (drop l.node-index l.nodes)))
      ≡ payloads_length (data_values (models_by_name l.nodes));
  within : l.total ≤ l.limit;
}
