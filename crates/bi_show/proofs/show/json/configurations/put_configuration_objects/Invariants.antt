use Rattle.std.proofs.Common.{◌≡◌, map}
use Rattle.bi_blob.specs.Lookups.{siblings}
use Rattle.bi_coverage.specs.Coverage.{configuration_coverage}
use Rattle.bi_coverage.specs.Values.{configuration_value, meaning_of_sibling}
use Rattle.bi_fit.specs.HashNodes.{file_configurations}
use Rattle.bi_fit.specs.Siblings.{siblings_left}
use Rattle.bi_common.specs.JsonTokens.{value_tokens}
use Rattle.bi_report.proofs.PutInTurn.{IsPutBefore}
use Rattle.bi_show.specs.ReadObjects.{read_configuration_object}
use Rattle.bi_show.proofs.show.json.configurations.put_configuration_objects.Given as goal

-- The configurations that are left follow those that were put, and the coverage that is left is theirs.
abbrev pub invariant-loop-node : goal.invariant-loop-node
invariant-loop-node g l = record {
  are_put : IsPutBefore g.J.JsonPen.puts l.initial.json l.json
      (value_tokens (map (read_configuration_object l.fn.fit) (siblings_left l.node-iterator)))
      (value_tokens (map (read_configuration_object l.fn.fit) (siblings (file_configurations l.fn.fit.blob))));
  covered : map configuration_value l.left
      ≡ map (λ entry. configuration_coverage l.fn.fit (meaning_of_sibling entry)) (siblings_left l.node-iterator);
}
