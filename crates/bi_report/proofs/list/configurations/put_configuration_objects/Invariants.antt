use Rattle.std.proofs.Common.{map}
use Rattle.bi_fit.specs.Siblings.{siblings_left}
use Rattle.bi_common.specs.JsonTokens.{value_tokens}
use Rattle.bi_report.specs.FitListing.{configuration_object}
use Rattle.bi_report.specs.ReadListing.{read_configuration, read_configurations}
use Rattle.bi_report.proofs.PutInTurn.{IsPutBefore}
use Rattle.bi_report.proofs.list.configurations.put_configuration_objects.Given as goal

-- The configurations that are left follow those that were put.
abbrev pub invariant-loop-node : goal.invariant-loop-node
invariant-loop-node g l =
    IsPutBefore g.J.JsonPen.puts l.initial.json l.json
    (value_tokens (map configuration_object (map (read_configuration l.fn.fit.images) (siblings_left l.node-iterator))))
    (value_tokens (map configuration_object (read_configurations l.fn.fit)))
